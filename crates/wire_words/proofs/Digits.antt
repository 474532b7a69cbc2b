-- The digits behind the point of a number with decimal places. Assumes nothing.
use Rattle.std.proofs.Common.{◌≡◌, ℕ, zero, suc, ◌+◌, ◌-◌, ◌*◌, ◌/◌, ◌%◌, ◌^◌, ◌<◌, ◌≤◌, List, [], ◌∷◌, ◌++◌, length, replicate, decimal, refl, sym, ap, ◌∙◌, append-nil, append_assoc, length-append, ℤ, pos, negsuc, nat_abs, arith}
use Rattle.std.specs.Fmt.{padded_integral, format_spec, char_count, sign_text, styled_decimal}
use Rattle.std.specs.Int.{is_negative}
use Rattle.std.proofs.Math.Arith.{mod-mul}
use Rattle.std.proofs.Math.Nat.{div-div-eq-div-mul, div-one, zero-div, mul_comm, one-le-pow, pow-suc, mod-le, mod-lt}
use borrow.Author.Tests.{ne_eqb, le-ltb}
use Rattle.std.proofs.lemmas.Fmt.{decimal_by_steps}
use Rattle.wire_words.specs.Decimals.{last_digits, pointed, decimal_words}

-- the last digit apart
last_digit : (k n : ℕ) → last_digits (suc k) n ≡ last_digits k (n / 10) ++ ((48 + n % 10) ∷ [])
unfolding last_digits
last_digit zero n = ap (λ m. (48 + m % 10) ∷ []) (div-one n)
last_digit (suc k) n =
    let apart : n / 10 ^ suc k ≡ n / 10 / 10 ^ k = ap (λ p. n / p) (pow-suc 10 k ∙ mul_comm (10 ^ k) 10) ∙ sym (div-div-eq-div-mul n 10 (10 ^ k)) in
    ap (λ l. (48 + n / 10 ^ suc k % 10) ∷ l) (last_digit k n)
    ∙ ap (λ m. (48 + m % 10) ∷ (last_digits k (n / 10) ++ ((48 + n % 10) ∷ []))) apart

-- what stands in front of them says nothing
rest_digits : (k n : ℕ) → last_digits k (n % 10 ^ k) ≡ last_digits k n
unfolding last_digits
rest_digits zero n = refl
rest_digits (suc k) n =
    let parts : n % 10 ^ suc k ≡ (n / 10 % 10 ^ k) * 10 + n % 10 = ap (λ p. n % p) (pow-suc 10 k) ∙ mod-mul n {m = 10 ^ k} {c = 10} (omega (arith, one-le-pow k 10 (omega arith))) (omega arith) in
    let front : n % 10 ^ suc k / 10 ≡ n / 10 % 10 ^ k = omega arith in
    let last : n % 10 ^ suc k % 10 ≡ n % 10 = omega arith in
    last_digit k (n % 10 ^ suc k)
    ∙ ap (λ m. last_digits k (n % 10 ^ suc k / 10) ++ ((48 + m) ∷ [])) last
    ∙ ap (λ m. last_digits k m ++ ((48 + n % 10) ∷ [])) front
    ∙ ap (λ l. l ++ ((48 + n % 10) ∷ [])) (rest_digits k (n / 10))
    ∙ sym (last_digit k n)

zeros : (k : ℕ) → last_digits k 0 ≡ replicate k 48
unfolding last_digits
zeros zero = refl
zeros (suc k) = ap (λ m. (48 + m % 10) ∷ last_digits k 0) (zero-div (10 ^ k)) ∙ ap (λ l. 48 ∷ l) (zeros k)

-- zeros in front fill them up
filled : (n : ℕ) → n < 2 ^ 64 → (k : ℕ) → 0 < k → n < 10 ^ k → replicate (k - length (decimal n)) 48 ++ decimal n ≡ last_digits k n
filled = decimal_by_steps (λ m ds. (k : ℕ) → 0 < k → m < 10 ^ k → replicate (k - length ds) 48 ++ ds ≡ last_digits k m) one more
  where
    one : (m : ℕ) → m < 10 → (k : ℕ) → 0 < k → m < 10 ^ k → replicate (k - length ((48 + m) ∷ [])) 48 ++ ((48 + m) ∷ []) ≡ last_digits k m
    one m small zero h _ = absurd (omega arith)
    one m small (suc j) h _ =
        let none : m / 10 ≡ 0 = omega arith in
        let self : m % 10 ≡ m = omega arith in
        let left : suc j - 1 ≡ j = omega arith in
        rw (last_digit j m, none, self, left, zeros j)

    more : (m : ℕ) (ds : List ℕ) → 10 ≤ m → ((k : ℕ) → 0 < k → m / 10 < 10 ^ k → replicate (k - length ds) 48 ++ ds ≡ last_digits k (m / 10)) → (k : ℕ) → 0 < k → m < 10 ^ k → replicate (k - length (ds ++ ((48 + m % 10) ∷ []))) 48 ++ (ds ++ ((48 + m % 10) ∷ [])) ≡ last_digits k m
    more m ds big step zero h fits = absurd (omega arith)
    more m ds big step (suc zero) h fits = absurd (omega arith)
    more m ds big step (suc (suc j)) h fits =
        let end : List ℕ = (48 + m % 10) ∷ [] in
        let left : suc (suc j) - length (ds ++ end) ≡ suc j - length ds = omega (arith, length-append ds end) in
        ap (λ n. replicate n 48 ++ (ds ++ end)) left
        ∙ sym (append_assoc (replicate (suc j - length ds) 48) ds end)
        ∙ ap (λ l. l ++ end) (step (suc j) (omega arith) (omega arith))
        ∙ sym (last_digit (suc j) m)

-- what `{:0k$}` writes of what stands behind the point
pub padded_rest : (k n : ℕ) → 0 < k → n < 2 ^ 64 → styled_decimal (format_spec 32 0 4 k (2 ^ 64 - 1)) (n % 10 ^ k) ≡ last_digits k n
unfolding padded_integral char_count
padded_rest k n some fits =
    let rest = n % 10 ^ k in
    let unit : 0 < 10 ^ k = omega (arith, one-le-pow k 10 (omega arith)) in
    let width : k - length (decimal rest) - 0 - 0 ≡ k - length (decimal rest) = omega arith in
    rw (ne_eqb k 0 (omega arith))
    (ap (λ l. replicate (k - length (decimal rest) - 0 - 0) 48 ++ l) (append-nil (decimal rest))
    ∙ ap (λ m. replicate m 48 ++ decimal rest) width
    ∙ filled rest (omega (arith, mod-le n (10 ^ k))) k some (mod-lt n unit)
    ∙ rest_digits k n)

pub none : (k n : ℕ) → k ≡ 0 → [] ≡ last_digits k n
unfolding last_digits
none k n e = sym (ap (λ j. last_digits j n) e)

signed : (k : ℕ) (v : ℤ) → sign_text (is_negative v) ++ pointed k (nat_abs v) ≡ decimal_words k v
signed k (pos n) = rw (le-ltb n 0 (omega arith))
signed k (negsuc n) = refl

-- the sign, what stands in front of the point and what stands behind it
pub whole : (k : ℕ) (v : ℤ) (n u : ℕ) (s d : List ℕ) → n ≡ nat_abs v → u ≡ 10 ^ k → s ≡ sign_text (is_negative v) → d ≡ last_digits k n → s ++ (decimal (n / u) ++ (46 ∷ d)) ≡ decimal_words k v
whole k v n u s d size unit sign digits =
    (λ i. sign i ++ (decimal (n / unit i) ++ (46 ∷ digits i)))
    ∙ ap (λ m. sign_text (is_negative v) ++ pointed k m) size
    ∙ signed k v
