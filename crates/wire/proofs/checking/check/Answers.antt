use Rattle.wire.proofs.Verdicts.{verdict_cases}
use Rattle.wire.proofs.checking.check.Goals as goal

pub returns-clause-law : goal.returns-clause-law
returns-clause-law c = verdict_cases _ _ _ c.check_block.result c.check_block.ensures
