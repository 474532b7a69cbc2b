-- The number of a unit in decimal digits. Assumes nothing.
use Rattle.std.specs.Prelude.{ℕ, ◌+◌, ◌-◌, ◌*◌, cond, ◌&&◌, List, [], ◌∷◌, length, Some, None, Option, ◌==◌, nat_le}
use Rattle.recording.specs.Text.{blank, unblanked}

abbrev pub digit_of : ℕ → Option ℕ
digit_of b = cond (nat_le 0x30 b && nat_le b 0x39) (Some (b - 0x30)) None

-- a number with one digit more, where it stays below 256
abbrev pub appended_digit : ℕ → Option ℕ → Option ℕ
appended_digit n None = None
appended_digit n (Some d) = cond (nat_le (n * 10 + d) 255) (Some (n * 10 + d)) None

abbrev pub with_number : {X : Type 0} → Option ℕ → (ℕ → Option X) → Option X
with_number None f = None
with_number (Some n) f = f n

-- a number whose digits go on, up to a blank behind which nothing but blanks may stand
unfoldable pub more_digits : ℕ → List ℕ → Option ℕ
more_digits n [] = Some n
more_digits n (b ∷ bs) =
    cond (blank b) (cond (length (unblanked bs) == 0) (Some n) None)
    (with_number (appended_digit n (digit_of b)) (λ m. more_digits m bs))

abbrev pub first_digit : List ℕ → Option ℕ
first_digit [] = None
first_digit (b ∷ bs) = with_number (digit_of b) (λ n. more_digits n bs)

abbrev pub unit_number : List ℕ → Option ℕ
unit_number text = first_digit (unblanked text)
