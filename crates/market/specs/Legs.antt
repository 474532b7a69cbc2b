-- How many legs an instrument has. Assumes nothing.
use Rattle.std.specs.Prelude.{ℕ, ◌+◌, List, Option, Some, None, slice_index_or}

abbrev pub one : {A : Type 0} → Option A → ℕ
one None = 0
one (Some l) = 1

abbrev pub leg_count : {A : Type 0} → List (Option A) → ℕ
leg_count ls = one (slice_index_or ls 0 None) + one (slice_index_or ls 1 None) + one (slice_index_or ls 2 None) + one (slice_index_or ls 3 None)
