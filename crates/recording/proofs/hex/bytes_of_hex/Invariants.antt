use Rattle.std.proofs.Common.{length, vec_items}
use Rattle.recording.proofs.Turns.{Kept}
use Rattle.recording.proofs.hex.bytes_of_hex.Given as goal

abbrev pub invariant-loop-rest : goal.invariant-loop-rest
invariant-loop-rest l = Kept l.text (vec_items l.bytes) l.rest

abbrev pub decreases-loop-rest : goal.decreases-loop-rest
decreases-loop-rest l = length l.rest
