-- What a line of a recording says. Assumes nothing.
use Rattle.std.specs.Prelude.{◌≡◌, ℕ, Bool, true, cond, List, [], ◌∷◌, Some, None, Ok, Err, vec_items, codes, Option, Result, ◌==◌}
use Rattle.recording.specs.Hex.{hex_bytes}
use Rattle.recording.specs.Text.{unblanked, behind_word}
use Rattle.recording.specs.Units.{unit_number}
use Rattle.recording.specs.declared.line.BadLine.{BadLine}
use Rattle.recording.specs.declared.line.BadLine.TheVariants.{Memory, NoHex, NoUnit}
use Rattle.recording.specs.declared.line.Line.{Line}
use Rattle.recording.specs.declared.line.Line.TheVariants as the_line
use Rattle.wire_types.specs.declared.header.Carrier.{Carrier}
use Rattle.wire_types.specs.declared.header.Carrier.TheVariants.{Datagram, Spin}

-- nothing, the unit of the blocks to come, or a block
pub data Said : Type 0 where
  nothing : Said
  of_unit : ℕ → Said
  block : Carrier → List ℕ → Said

-- an empty line, or one that begins with #
abbrev pub remark : List ℕ → Bool
remark [] = true
remark (b ∷ bs) = b == 0x23

abbrev pub unit_line : Option ℕ → Result Said BadLine
unit_line None = Err NoUnit
unit_line (Some n) = Ok (of_unit n)

abbrev pub block_line : Carrier → Option (List ℕ) → Result Said BadLine
block_line carrier None = Err NoHex
block_line carrier (Some bytes) = Ok (block carrier bytes)

-- what is done behind a word, or else
abbrev pub by_word : {X : Type 0} → Option (List ℕ) → (List ℕ → X) → X → X
by_word None f x = x
by_word (Some rest) f x = f rest

-- a line without the blanks in front
abbrev pub text_line : List ℕ → Result Said BadLine
text_line t =
    cond (remark t) (Ok nothing)
    (by_word (behind_word (codes "unit") t) (λ rest. unit_line (unit_number rest))
    (by_word (behind_word (codes "spin") t) (λ rest. block_line Spin (hex_bytes rest))
    (by_word (behind_word (codes "datagram") t) (λ rest. block_line Datagram (hex_bytes rest))
    (block_line Datagram (hex_bytes t)))))

abbrev pub line_of : List ℕ → Result Said BadLine
line_of line = text_line (unblanked line)

abbrev pub line_meaning : Line → Said
line_meaning the_line.Blank = nothing
line_meaning (the_line.Unit n) = of_unit n
line_meaning (the_line.Block carrier bytes) = block carrier (vec_items bytes)

-- an answer is the one that is due, unless memory fails
abbrev pub Parsed : Result Said BadLine → Result Line BadLine → Type 0
Parsed due (Ok l) = due ≡ Ok (line_meaning l)
Parsed due (Err Memory) = Unit {0}
Parsed due (Err NoHex) = due ≡ Err NoHex
Parsed due (Err NoUnit) = due ≡ Err NoUnit

-- the unit of the blocks to come; a line that is not understood leaves it
abbrev pub unit_after : Result Said BadLine → Option ℕ → Option ℕ
unit_after (Ok nothing) unit = unit
unit_after (Ok (of_unit n)) unit = Some n
unit_after (Ok (block carrier bytes)) unit = unit
unit_after (Err bad) unit = unit
