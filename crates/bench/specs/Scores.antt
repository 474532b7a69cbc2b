-- How vectors are counted. Assumes nothing.
use Rattle.std.specs.Prelude.{ℕ, ◌+◌, ◌-◌, ◌^◌, min, Bool, if◌then◌else◌}
use Rattle.bench.specs.declared.score.Score.{Score}

-- one more, up to the largest number that fits
abbrev pub one_more : ℕ → ℕ
one_more n = min (n + 1) (2 ^ 64 - 1)

abbrev pub no_vector : Score
no_vector = record { vectors = 0; differ = 0 }

-- a score with one vector more
abbrev pub counted : Score → Bool → Score
counted s differs = record { vectors = one_more s.vectors; differ = if differs then one_more s.differ else s.differ }
