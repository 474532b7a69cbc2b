use Rattle.play.proofs.Frames.{all_of_accepted}
use Rattle.play.proofs.taking.take_block.Goals as goal

pub returns-in_err-header-clause-all : goal.returns-in_err-header-clause-all
returns-in_err-header-clause-all g c = all_of_accepted c.args.block.bytes.now

pub returns-then-not-is_played-clause-all : goal.returns-then-not-is_played-clause-all
returns-then-not-is_played-clause-all g c = all_of_accepted c.args.block.bytes.now
