-- Bytes written as pairs of hex digits, with blanks between the pairs. Assumes nothing.
use Rattle.std.specs.Prelude.{◌≡◌, ℕ, ◌+◌, ◌-◌, ◌*◌, cond, List, [], ◌∷◌, Some, None, Ok, Err, vec_items, Option, Result, Vec, nat_lt}
use Rattle.recording.specs.Text.{blank}
use Rattle.recording.specs.declared.line.BadLine.{BadLine}
use Rattle.recording.specs.declared.line.BadLine.TheVariants.{Memory, NoHex, NoUnit}

-- 0 to 9, A to F, a to f
abbrev pub nibble_of : ℕ → Option ℕ
nibble_of b =
    cond (nat_lt b 0x30) None
    (cond (nat_lt b 0x3A) (Some (b - 0x30))
    (cond (nat_lt b 0x41) None
    (cond (nat_lt b 0x47) (Some (b - 0x41 + 10))
    (cond (nat_lt b 0x61) None
    (cond (nat_lt b 0x67) (Some (b - 0x61 + 10))
    None)))))

abbrev pub pair_of : Option ℕ → Option ℕ → Option ℕ
pair_of None low = None
pair_of (Some h) None = None
pair_of (Some h) (Some l) = Some (16 * h + l)

-- a byte in front of others, where all are known
abbrev pub led : Option ℕ → Option (List ℕ) → Option (List ℕ)
led None more = None
led (Some b) None = None
led (Some b) (Some bs) = Some (b ∷ bs)

-- the bytes that a text writes; none where a digit is missing or is no digit
unfoldable pub hex_bytes : List ℕ → Option (List ℕ)
hex_bytes [] = Some []
hex_bytes (a ∷ []) = cond (blank a) (Some []) None
hex_bytes (a ∷ b ∷ rest) = cond (blank a) (hex_bytes (b ∷ rest)) (led (pair_of (nibble_of a) (nibble_of b)) (hex_bytes rest))

-- what decoding a text answers, unless memory fails
abbrev pub Decodes : {Z : Type 0} → List ℕ → Result (Vec ℕ Z) BadLine → Type 0
Decodes text (Ok v) = hex_bytes text ≡ Some (vec_items v)
Decodes text (Err Memory) = Unit {0}
Decodes text (Err NoHex) = hex_bytes text ≡ None
Decodes text (Err NoUnit) = ⊥
