-- What a decoded message does, and what a target means. Assumes nothing.
use Rattle.wire_types.specs.Records.{meaning}
use Rattle.wire_types.specs.declared.message.Message.{Message}
use Rattle.market.specs.Effects.{Effect, effect, Aim, at_nothing, at_clock, at_every_row, at_row}
use Rattle.market.specs.declared.aim.Target.{Target}
use Rattle.market.specs.declared.aim.Target.TheVariants as the_target

abbrev pub does : Message → Effect
does x = effect (meaning x)

abbrev pub aimed : Target → Aim
aimed the_target.Nothing = at_nothing
aimed the_target.Clock = at_clock
aimed the_target.EveryRow = at_every_row
aimed (the_target.Row s) = at_row s.now
