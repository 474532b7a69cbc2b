use Rattle.std.proofs.Common.{rules, sym}
use Rattle.recording.proofs.Words.{no_word, whole_word}
use Rattle.recording.proofs.text.behind_word.Goals as goal

pub returns-in_err-rest : goal.returns-in_err-rest
returns-in_err-rest c = rw c.from_residual.ensures (sym (no_word _ _ c.in_err-rest.ensures.cases))

pub returns : goal.returns
returns c =
    let e = whole_word c.args.word.now c.args.text.now c.in_ok-rest.ensures.cases.0 in
    rw (c.then_some.ensures, c.ends_word.ensures, e, ← c.in_ok-rest.ensures.cases.1) (search rules)
