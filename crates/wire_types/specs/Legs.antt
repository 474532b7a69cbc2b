-- The legs of a spread: ten bytes each, a signed ratio of four and a symbol of six. Assumes nothing.
use Rattle.std.specs.Prelude.{ℕ, zero, suc, ◌/◌, List, [], ◌∷◌, length, take, drop, ℤ}
use Rattle.wire_types.specs.Numbers.{le, signed}

pub record LegRecord : Type 0 where
  pub ratio : ℤ
  pub symbol : List ℕ

-- the leg in front of the bytes
abbrev pub leg_of : List ℕ → LegRecord
leg_of bytes = record { ratio = signed 4 (le 4 bytes 0); symbol = take 6 (drop 4 bytes) }

-- the first k legs of the bytes
unfoldable pub first_legs : ℕ → List ℕ → List LegRecord
first_legs zero bytes = []
first_legs (suc k) bytes = leg_of bytes ∷ first_legs k (drop 10 bytes)

-- all the legs of the bytes
abbrev pub legs_in : List ℕ → List LegRecord
legs_in bytes = first_legs (length bytes / 10) bytes
