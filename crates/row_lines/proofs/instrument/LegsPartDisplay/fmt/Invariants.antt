use Rattle.std.proofs.Common.{take}
use Rattle.std.specs.Fmt.{HasWritten, IsPlainFormatter}
use Rattle.std.specs.List.{flat_map}
use Rattle.row_lines.specs.Instruments.{leg_part}
use Rattle.row_lines.proofs.instrument.LegsPartDisplay.fmt.Given as goal

abbrev pub invariant-loop-leg : goal.invariant-loop-leg
invariant-loop-leg g l =
    IsPlainFormatter l.fn.f → HasWritten g.W.Write.write_str_gives l.fn.f (flat_map leg_part (take l.leg-index l.leg-items)) l.f
