use Rattle.std.proofs.Common.{not, rules, tests}
use Rattle.std.proofs.lemmas.Iterator.{YieldsList-from_slice}
use Rattle.std.proofs.lemmas.Iterator.Search.{position_from_yields_List}
use Rattle.recording.specs.Text.{blank}
use Rattle.recording.proofs.Words.{skipped}
use Rattle.recording.proofs.text.skip_blanks.Goals as goal

pub returns : goal.returns
returns c =
    let found = position_from_yields_List (λ b. not (blank b)) _ _ c.position-start.result c.position-start.ensures.ran (YieldsList-from_slice c.args.text.now cc) (λ x b q k. search (rules, tests)) in
    rw c.unwrap_or.ensures (skipped _ _ found)
