use Rattle.std.proofs.Common.{◌-◌, length, drop, arith, length-drop}
use Rattle.std.proofs.lemmas.List.{take_all}
use Rattle.play.proofs.Totals.{one_played, all_played, broken_off}
use Rattle.play.proofs.block.play_messages.Goals as goal

pub loop-place-preserved : goal.loop-place-preserved
loop-place-preserved g c =
    let rest = c.loop-place.rest.now in
    let n = length c.in-Ok.message.now in
    let behind = take_all (length rest - n) (drop n rest) (omega (arith, length-drop n rest)) in
    one_played _ _ _ _ _ _ _ c.loop-place.invariant c.in-Ok.message.now _ _ _ c.loop-place-test.true c.in-Ok.ensures.value behind c.play_one-played.ensures.book c.play_one-played.ensures.played

pub returns-after-loop-place : goal.returns-after-loop-place
returns-after-loop-place g c =
    let end = all_played _ _ _ _ _ _ _ c.loop-place.invariant c.loop-place-test.false in
    record { book = end.0; played = end.1 }

pub returns-in_default : goal.returns-in_default
returns-in_default g c =
    let end = broken_off _ _ _ _ _ _ _ c.loop-place.invariant _ c.in_default.ensures.value in
    record { book = end.0; played = end.1 }
