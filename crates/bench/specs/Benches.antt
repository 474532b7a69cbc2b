-- What a bench has counted and told, and what is under trial on it. Assumes nothing.
use Rattle.std.specs.Prelude.{ℕ, not, if◌then◌else◌, List, [], ◌++◌, Some, None, Option, codes, decimal, string_bytes}
use Rattle.std.specs.Option.{option_map}
use Rattle.std.specs.Str.{bytes_eq}
use Rattle.bench.specs.Scores.{counted}
use Rattle.bench.specs.declared.score.Score.{Score}
use Rattle.bench.specs.declared.trial.Bench.{Bench}
use Rattle.bench.specs.declared.trial.Trial.{Trial}
use Rattle.wire_report.specs.Lines.{indented}

-- a line's number, what is said on it, and what is expected of it so far
pub record Trying : Type 0 where
  pub number : ℕ
  pub said : List ℕ
  pub expected : List ℕ

abbrev pub trial : ℕ → List ℕ → List ℕ → Trying
trial number said expected = record { number = number; said = said; expected = expected }

abbrev pub tried : Trial → Trying
tried t = trial t.number (string_bytes t.said) (string_bytes t.expected)

abbrev pub score_of : Bench → Score
score_of b = b.score

abbrev pub text_of : Bench → List ℕ
text_of b = string_bytes b.text

abbrev pub trial_of : Bench → Option Trying
trial_of b = option_map tried b.trial

-- a trial of which one line more is expected
abbrev pub with_line : List ℕ → Trying → Trying
with_line line t = trial t.number t.said (t.expected ++ (line ++ codes "\n"))

-- what is told of a trial whose expected lines are not those that are said
abbrev pub told : Trying → List ℕ
told t = codes "line " ++ (decimal t.number ++ (codes ": expected\n" ++ (indented t.expected ++ (codes "but said\n" ++ indented t.said))))

-- what is told as a trial ends, and how it counts
abbrev pub difference : Option Trying → List ℕ
difference None = []
difference (Some t) = if bytes_eq t.said t.expected then [] else told t

abbrev pub closed : Option Trying → Score → Score
closed None s = s
closed (Some t) s = counted s (not (bytes_eq t.said t.expected))

-- what is told of a line that is of no use
abbrev pub fault : ℕ → List ℕ → List ℕ
fault number why = codes "line " ++ (decimal number ++ (codes ": " ++ (why ++ codes "\n")))

-- what is told of a line that is expected: nothing, unless nothing is under trial
abbrev pub stray : Option Trying → ℕ → List ℕ → List ℕ
stray None number lacks = fault number lacks
stray (Some t) number lacks = []
