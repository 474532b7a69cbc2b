-- What a recording has said so far. Assumes nothing.
use Rattle.std.specs.Prelude.{ℕ, Option}
use Rattle.recording.specs.declared.listening.Recording.{Recording}

-- the unit that blocks to come are checked against, if one was named
abbrev pub unit_of : Recording → Option ℕ
unit_of r = r.unit
