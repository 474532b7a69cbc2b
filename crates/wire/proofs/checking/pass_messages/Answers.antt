use Rattle.std.proofs.Common.{Ok, sym, ap, ◌∙◌}
use Rattle.std.proofs.lemmas.Result.{err_from_is_err_and}
use Rattle.std.specs.Option.{option_map}
use Rattle.wire_types.specs.Records.{meaning}
use Rattle.wire_reader.specs.Reading.{standing}
use Rattle.wire.proofs.Walks.{on_some, on_none, on_err}
use Rattle.wire.proofs.checking.pass_messages.Goals as goal

pub loop-preserved : goal.loop-preserved
loop-preserved c =
    c.loop.invariant
    ∙ (on_some _ _ _ (ap (λ o. Ok (option_map meaning o)) (sym c.in-Some.is) ∙ c.in_ok-message.ensures.value) c.in_ok-message.ensures.after).0

pub returns-in_err-message : goal.returns-in_err-message
returns-in_err-message c =
    let p = err_from_is_err_and c.from_residual.result c.from_residual.ensures.1 in
    let e = on_err _ _ c.in_err-message.ensures.value in
    rw (p.1, p.2) (sym (c.loop.invariant ∙ e))

pub returns : goal.returns
returns c =
    let e = on_none (standing c.loop.reader) _ (ap (λ o. Ok (option_map meaning o)) (sym c.in_default.is) ∙ c.in_ok-message.ensures.value) c.in_ok-message.ensures.after in
    ap Ok c.left.ensures ∙ sym (c.loop.invariant ∙ e)
