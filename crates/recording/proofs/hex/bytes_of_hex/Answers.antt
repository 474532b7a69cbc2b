use Rattle.std.proofs.Common.{sym, ap, subst, arith, ◌∙◌}
use Rattle.std.proofs.lemmas.Bool.Decides.{nat_tests}
use Rattle.std.proofs.lemmas.List.{take_rest}
use Rattle.std.proofs.lemmas.Result.{err_from_is_err_and}
use Rattle.recording.specs.Text.{unblanked}
use Rattle.recording.proofs.Turns.{Kept, at_start, shorter, over_pair, no_pair, lone_digit, at_end, byte_taken, byte_refused}
use Rattle.recording.proofs.hex.bytes_of_hex.Goals as goal

pub loop-rest-init : goal.loop-rest-init
loop-rest-init c = subst (λ done. Kept c.args.text.now done c.skip_blanks-rest.result.now) (sym c.new-bytes.ensures.items) (at_start _ _ c.skip_blanks-rest.ensures)

pub returns-in_err-ok_or : goal.returns-in_err-ok_or
returns-in_err-ok_or c =
    let p = err_from_is_err_and c.from_residual.result c.from_residual.ensures.1 in
    let none = byte_refused c.pair.result _ (sym c.ok_or.ensures.value ∙ c.in_err-ok_or.was) in
    rw (p.1, p.2, none.0) (no_pair _ c.in-len2-up.len_at_least (none.1 ∙ c.pair.ensures) c.loop-rest.invariant)

pub loop-rest-smaller : goal.loop-rest-smaller
loop-rest-smaller c = shorter _ _ c.in-len2-up.len_at_least (c.skip_blanks-rest-in-len2-up.ensures ∙ ap unblanked (take_rest _ 2))

pub loop-rest-preserved : goal.loop-rest-preserved
loop-rest-preserved c =
    let taken = byte_taken c.pair.result _ (sym c.ok_or.ensures.value ∙ c.in_ok-ok_or.was) in
    subst (λ done. Kept c.args.text.now done c.skip_blanks-rest-in-len2-up.result.now) (sym c.in_ok-push.ensures.items)
    (over_pair _ _ _ c.in-len2-up.len_at_least (taken ∙ c.pair.ensures) (c.skip_blanks-rest-in-len2-up.ensures ∙ ap unblanked (take_rest _ 2)) c.loop-rest.invariant)

pub returns-then-not-is_empty : goal.returns-then-not-is_empty
returns-then-not-is_empty c = lone_digit _ c.in_default.len_below (grind (arith, nat_tests)) c.loop-rest.invariant

pub returns : goal.returns
returns c = at_end _ (grind (arith, nat_tests)) c.loop-rest.invariant
