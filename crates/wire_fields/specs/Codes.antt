-- Codes of one byte, each by its list. Assumes nothing.
use Rattle.std.specs.Prelude.{ℕ, List, Some, None, Ok, Err, Option, Result, slice_index}
use Rattle.wire_types.specs.Refusals.{Breach, breach}

-- a code that stands in its list, or refusal 10 at its byte
abbrev pub listed : {X : Type 0} → Option X → ℕ → Result X Breach
listed (Some x) at = Ok x
listed None at = Err (breach 10 at)

-- the code at a byte of m
abbrev pub code_at : {X : Type 0} → (ℕ → Option X) → List ℕ → ℕ → Result X Breach
code_at code m at = listed (code (slice_index m at)) at
