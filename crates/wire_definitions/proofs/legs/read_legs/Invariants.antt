use Rattle.std.proofs.Common.{◌-◌}
use Rattle.wire_definitions.proofs.Walks.{Walked}
use Rattle.wire_definitions.proofs.legs.read_legs.Given as goal

abbrev pub invariant-loop-leg : goal.invariant-loop-leg
invariant-loop-leg l = Walked l.count l.m l.at l.leg

abbrev pub decreases-loop-leg : goal.decreases-loop-leg
decreases-loop-leg l = l.end - l.leg
