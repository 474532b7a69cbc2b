-- Numbers read through a part of the bytes.
use Rattle.std.proofs.Common.{◌≡◌, ℕ, zero, suc, ◌+◌, ◌≤◌, List, take, drop, refl, add_assoc, arith}
use Rattle.std.proofs.lemmas.List.{get_or-drop, get_or-take}
use Rattle.wire_types.specs.Numbers.{le}

-- a number behind the first n bytes
pub le_drop : (k n : ℕ) (m : List ℕ) (at : ℕ) → le k (drop n m) at ≡ le k m (n + at)
le_drop zero n m at = refl
le_drop (suc k) n m at = rw (get_or-drop, le_drop k n m (at + 1), add_assoc n at 1) refl

-- a number within the first n bytes
pub le_take : (k n : ℕ) (m : List ℕ) (at : ℕ) → at + k ≤ n → le k (take n m) at ≡ le k m at
le_take zero n m at h = refl
le_take (suc k) n m at h = grind (arith, get_or-take, le_take k n m (at + 1) (omega arith))
