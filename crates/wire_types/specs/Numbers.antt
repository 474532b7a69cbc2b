-- Numbers of k bytes, the least byte first. Assumes nothing.
use Rattle.std.specs.Prelude.{ℕ, zero, suc, ◌+◌, ◌-◌, ◌*◌, ◌^◌, cond, List, ℤ, pos, negsuc, nat_lt, slice_index}

-- the number of the k bytes of m from `at` on
abbrev pub le : ℕ → List ℕ → ℕ → ℕ
le zero m at = 0
le (suc k) m at = slice_index m at + 256 * le k m (at + 1)

-- a number of k bytes as a signed one: from half of the range on it stands for itself less the range
abbrev pub signed : ℕ → ℕ → ℤ
signed k n = cond (nat_lt n (2 ^ (8 * k - 1))) (pos n) (negsuc (2 ^ (8 * k) - suc n))
