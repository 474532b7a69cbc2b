-- One byte more of a text: blanks, words and digits.
use Rattle.std.proofs.Common.{◌≡◌, ℕ, ◌+◌, ◌-◌, ◌≤◌, ◌<◌, Bool, true, false, not, cond, ◌&&◌, eqb, List, [], ◌∷◌, length, take, drop, get_or, Some, None, Option, unwrap_or, refl, arith}
use Rattle.std.proofs.lemmas.Grind.{common_steps}
use Rattle.std.proofs.lemmas.List.Sums.{prefix_len-le-length}
use Rattle.std.proofs.lemmas.List.{at_drop_more, at_drop_all}
use Rattle.std.specs.Cmp.Lexicographic.{pointwise}
use Rattle.std.specs.List.{position, position_or_len}
use Rattle.recording.specs.Text.{blank, unblanked, word_ends, behind_word}
use Rattle.recording.specs.Units.{appended_digit, digit_of, more_digits, with_number}

-- where `position` finds nothing, the text's end stands for its answer
pub first_place : (p : ℕ → Bool) (xs : List ℕ) (r : Option ℕ) → r ≡ position p xs → unwrap_or r (length xs) ≡ position_or_len p xs
first_place p xs r e = let within : position_or_len p xs ≤ length xs = prefix_len-le-length _ xs in rw e (grind (arith, common_steps))

unblanked-drop : (xs : List ℕ) → unblanked xs ≡ drop (position_or_len (λ b. not (blank b)) xs) xs
unfolding unblanked
unblanked-drop [] = refl
unblanked-drop (b ∷ bs) =
    elim (blank b) as (λ v. cond v (unblanked bs) (b ∷ bs) ≡ drop (cond (not (not v)) (1 + position_or_len (λ x. not (blank x)) bs) 0) (b ∷ bs))
    [ true ↦ let ih : unblanked bs ≡ drop (position_or_len (λ x. not (blank x)) bs) bs = unblanked-drop bs in grind (arith, common_steps) | false ↦ refl ]

pub skipped : (xs : List ℕ) (r : Option ℕ) → r ≡ position (λ b. not (blank b)) xs → take (length xs - unwrap_or r (length xs)) (drop (unwrap_or r (length xs)) xs) ≡ unblanked xs
skipped xs r e = rw (first_place _ xs r e, unblanked-drop) (grind (arith, common_steps))

-- what `strip_prefix` tests and leaves
behind_word-stripped : (w t : List ℕ) → behind_word w t ≡ cond (pointwise eqb (take (length w) t) w) (cond (word_ends (drop (length w) t)) (Some (drop (length w) t)) None) None
unfolding behind_word
behind_word-stripped [] t = refl
behind_word-stripped (w ∷ ws) [] = refl
behind_word-stripped (w ∷ ws) (b ∷ bs) =
    elim (eqb b w) as (λ v. cond v (behind_word ws bs) None ≡ cond (v && pointwise eqb (take (length ws) bs) ws) (cond (word_ends (drop (length ws) bs)) (Some (drop (length ws) bs)) None) None)
    [ true ↦ behind_word-stripped ws bs | false ↦ refl ]

pub no_word : (w t : List ℕ) → pointwise eqb (take (length w) t) w ≡ false → behind_word w t ≡ None
no_word w t e = rw (behind_word-stripped, e) refl

pub whole_word : (w t : List ℕ) → pointwise eqb (take (length w) t) w ≡ true → behind_word w t ≡ cond (word_ends (drop (length w) t)) (Some (drop (length w) t)) None
whole_word w t e = rw (behind_word-stripped, e) refl

-- one digit more, a blank, and none more
digit_first : (n b : ℕ) (bs : List ℕ) → blank b ≡ false → more_digits n (b ∷ bs) ≡ with_number (appended_digit n (digit_of b)) (λ m. more_digits m bs)
unfolding more_digits
digit_first n b bs e = rw e refl

blank_first : (n b : ℕ) (bs : List ℕ) → blank b ≡ true → more_digits n (b ∷ bs) ≡ cond (eqb (length (unblanked (b ∷ bs))) 0) (Some n) None
unfolding more_digits unblanked
blank_first n b bs e = rw e refl

pub more_digits-turn : (n : ℕ) (xs : List ℕ) (i : ℕ) → i < length xs → blank (get_or xs i 0) ≡ false → more_digits n (drop i xs) ≡ with_number (appended_digit n (digit_of (get_or xs i 0))) (λ m. more_digits m (drop (i + 1) xs))
more_digits-turn n xs i h e = rw (at_drop_more (λ l. l) xs i 0 h) (digit_first n _ _ e)

pub more_digits-blank : (n : ℕ) (xs : List ℕ) (i : ℕ) → i < length xs → blank (get_or xs i 0) ≡ true → more_digits n (drop i xs) ≡ cond (eqb (length (unblanked (drop i xs))) 0) (Some n) None
more_digits-blank n xs i h e = rw (at_drop_more (λ l. l) xs i 0 h) (blank_first n _ _ e)

pub more_digits-end : (n : ℕ) (xs : List ℕ) (i : ℕ) → length xs ≤ i → more_digits n (drop i xs) ≡ Some n
unfolding more_digits
more_digits-end n xs i h = at_drop_all (more_digits n) xs i h
