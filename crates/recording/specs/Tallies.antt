-- How blocks and lines are counted. Assumes nothing.
use Rattle.std.specs.Prelude.{ℕ, ◌+◌, ◌-◌, ◌^◌, min, List, ◌++◌, codes, decimal}
use Rattle.recording.specs.declared.tally.Tally.{Tally}

-- a sum, up to the largest number that fits
abbrev pub more : ℕ → ℕ → ℕ
more m n = min (m + n) (2 ^ 64 - 1)

abbrev pub tally_words : Tally → List ℕ
tally_words t =
    decimal (more t.accepted t.refused) ++ (codes " blocks, "
    ++ (decimal t.accepted ++ (codes " accepted with "
    ++ (decimal t.messages ++ (codes " messages, "
    ++ (decimal t.refused ++ (codes " refused, "
    ++ (decimal t.not_understood ++ codes " lines not understood"))))))))
