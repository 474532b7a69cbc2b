-- A number is told by its own bytes alone.
use Rattle.std.proofs.Common.{◌≡◌, ℕ, List, take, drop, ap, ◌∙◌, add-zero, arith}
use Rattle.wire_types.proofs.Spans.{le_drop, le_take}
use Rattle.wire_types.specs.Numbers.{le, signed}

pub le_own : (k : ℕ) (m : List ℕ) (at : ℕ) → le k (take k (drop at m)) 0 ≡ le k m at
le_own k m at = le_take k k (drop at m) 0 (omega arith) ∙ le_drop k at m 0 ∙ ap (le k m) (add-zero at)

pub signed_own : (k : ℕ) (m : List ℕ) (at : ℕ) → signed k (le k (take k (drop at m)) 0) ≡ signed k (le k m at)
signed_own k m at = ap (signed k) (le_own k m at)
