-- Symbols: six printable bytes. Assumes nothing.
use Rattle.std.specs.Prelude.{ℕ, zero, suc, ◌+◌, Bool, false, cond, List, take, drop, Some, None, Ok, Err, Option, Result, nat_le, slice_index}
use Rattle.wire_types.specs.Refusals.{Breach, breach}

-- a byte that a symbol may hold
abbrev pub printable : ℕ → Bool
printable b = cond (nat_le 0x20 b) (nat_le b 0x7E) false

-- the first of the k bytes of m from `at` on that no symbol may hold
unfoldable pub first_bad : ℕ → List ℕ → ℕ → Option ℕ
first_bad zero m at = None
first_bad (suc k) m at = cond (printable (slice_index m at)) (first_bad k m (at + 1)) (Some at)

-- a value, unless a byte was found bad: then refusal 10 there
abbrev pub unless_bad : {X : Type 0} → Option ℕ → X → Result X Breach
unless_bad None x = Ok x
unless_bad (Some i) x = Err (breach 10 i)

-- the symbol of m from `at` on
abbrev pub symbol_at : List ℕ → ℕ → Result (List ℕ) Breach
symbol_at m at = unless_bad (first_bad 6 m at) (take 6 (drop at m))
