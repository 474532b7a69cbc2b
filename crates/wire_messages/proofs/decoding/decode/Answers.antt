use Rattle.wire_messages.proofs.Verdicts.{told_cases}
use Rattle.wire_messages.proofs.decoding.decode.Goals as goal

pub returns-clause-law : goal.returns-clause-law
returns-clause-law c = told_cases c.args.carrier c.args.bytes.now c.read_front.result c.read_front.ensures
