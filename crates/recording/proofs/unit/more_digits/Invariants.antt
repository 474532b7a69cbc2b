use Rattle.std.proofs.Common.{◌≡◌, drop}
use Rattle.recording.specs.Units.{more_digits}
use Rattle.recording.proofs.unit.more_digits.Given as goal

abbrev pub invariant-loop-place : goal.invariant-loop-place
invariant-loop-place l = more_digits l.first l.text ≡ more_digits l.number (drop l.place l.text)
