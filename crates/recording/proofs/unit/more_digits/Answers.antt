use Rattle.std.proofs.Common.{arith}
use Rattle.std.proofs.lemmas.Grind.{common_steps}
use Rattle.recording.proofs.Words.{more_digits-blank, more_digits-end, more_digits-turn}
use Rattle.recording.proofs.unit.more_digits.Goals as goal

pub returns-then-is_blank : goal.returns-then-is_blank
returns-then-is_blank c = grind (arith, common_steps, more_digits-blank)

pub returns-in_err-number : goal.returns-in_err-number
returns-in_err-number c = grind (arith, common_steps, more_digits-turn)

pub loop-place-preserved : goal.loop-place-preserved
loop-place-preserved c = grind (arith, common_steps, more_digits-turn)

pub returns : goal.returns
returns c = grind (arith, common_steps, more_digits-end)
