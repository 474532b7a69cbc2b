-- Lines with blanks in front. Assumes nothing.
use Rattle.std.specs.Prelude.{ℕ, List, ◌++◌, codes}
use Rattle.std.specs.List.{flat_map}
use Rattle.std.specs.Str.Lines.{lines}

abbrev pub indented_line : List ℕ → List ℕ
indented_line line = codes "  " ++ (line ++ codes "\n")

-- the lines of a text, each with two blanks in front and its end behind
abbrev pub indented : List ℕ → List ℕ
indented text = flat_map indented_line (lines text)
