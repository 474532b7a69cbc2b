use Rattle.std.proofs.Common.{◌≡◌, ◌-◌}
use Rattle.wire.specs.Blocks.{left_behind}
use Rattle.wire_reader.specs.Reading.{standing}
use Rattle.wire.proofs.checking.pass_messages.Given as goal

abbrev pub invariant-loop : goal.invariant-loop
invariant-loop l = left_behind (standing l.initial.reader) ≡ left_behind (standing l.reader)

abbrev pub decreases-loop : goal.decreases-loop
decreases-loop l = (standing l.reader).count - (standing l.reader).place
