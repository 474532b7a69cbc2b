-- What a line of a recording does to a book. Assumes nothing.
use Rattle.std.specs.Prelude.{ℕ, Ok, Err, Option, Result}
use Rattle.market.specs.Market.{Kind, Market, View}
use Rattle.play.specs.Takes.{taken_in}
use Rattle.recording.specs.Lines.{Said, nothing, of_unit, block}
use Rattle.recording.specs.declared.line.BadLine.{BadLine}

-- a line that is not understood does nothing
abbrev pub line_played : Result Said BadLine → Option ℕ → View Market Kind → View Market Kind
line_played (Ok nothing) unit v = v
line_played (Ok (of_unit n)) unit v = v
line_played (Ok (block carrier bytes)) unit v = taken_in carrier unit bytes v
line_played (Err bad) unit v = v
