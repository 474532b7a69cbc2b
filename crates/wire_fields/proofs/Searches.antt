-- The first byte that no symbol may hold, as a search of the bytes finds it.
use Rattle.std.proofs.Common.{◌≡◌, ℕ, zero, suc, ◌+◌, ◌≤◌, Bool, true, false, cond, not, ltb, List, ◌∷◌, length, get_or, take, drop, Some, None, Option, refl, ◌∙◌, sym, arith}
use Rattle.std.proofs.lemmas.Bool.Decides.{nat_tests}
use Rattle.std.proofs.lemmas.List.{at_drop_more}
use Rattle.std.specs.List.{position, position_or_len}
use Rattle.std.specs.Option.{option_map}
use Rattle.wire_fields.specs.Symbols.{first_bad, printable}

-- where it is found, by the place of the first of the bytes
abbrev pub found : ℕ → List ℕ → Option ℕ
found at xs = option_map (λ i. at + i) (position (λ b. not (printable b)) xs)

found_behind : (at p n : ℕ) (v : Bool) → ltb p n ≡ v → option_map (λ i. at + i) (cond (ltb (1 + p) (suc n)) (Some (1 + p)) None) ≡ option_map (λ i. at + 1 + i) (cond (ltb p n) (Some p) None)
found_behind at p n true h = grind (arith, nat_tests)
found_behind at p n false h = grind (arith, nat_tests)

found_front : (at x : ℕ) (ys : List ℕ) (v : Bool) → printable x ≡ v → found at (x ∷ ys) ≡ cond v (found (at + 1) ys) (Some at)
found_front at x ys true h = rw h (found_behind at (position_or_len (λ b. not (printable b)) ys) (length ys) _ refl)
found_front at x ys false h = grind (arith, nat_tests)

pub first_found : (k : ℕ) (m : List ℕ) (at : ℕ) → at + k ≤ length m → first_bad k m at ≡ found at (take k (drop at m))
unfolding first_bad
first_found zero m at h = refl
first_found (suc k) m at h =
    let r = first_found k m (at + 1) (omega arith) in
    let f = found_front at (get_or m at 0) (take k (drop (at + 1) m)) (printable (get_or m at 0)) refl in
    rw r (sym (at_drop_more (λ xs. found at (take (suc k) xs)) m at 0 (omega arith) ∙ f))
