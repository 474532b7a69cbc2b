use Rattle.std.proofs.Common.{◌≡◌, ◌+◌, ◌-◌, ◌*◌, None, drop, take, refl, arith}
use Rattle.std.proofs.lemmas.Result.{err_from_is_err_and}
use Rattle.wire_definitions.proofs.Walks.{stops, goes, ends}
use Rattle.wire_definitions.specs.Definitions.{first_bad_leg}
use Rattle.wire_types.specs.Legs.{legs_in}
use Rattle.wire_types.specs.Records.{legs_meaning}
use Rattle.wire_definitions.proofs.legs.read_legs.Goals as goal
use Rattle.wire_definitions.proofs.legs.read_legs.Goals.{else-loop-leg-test, then-loop-leg-test+in_ok-read_symbol+else-end-leg-gt10}

pub returns-in_err-read_symbol : goal.returns-in_err-read_symbol
returns-in_err-read_symbol c =
    let p = err_from_is_err_and c.from_residual.result c.from_residual.ensures.1 in
    rw (p.1, p.2) (stops _ _ _ _ c.loop-leg.invariant (omega arith) _ _ _ c.in_err-read_symbol.ensures)

pub loop-leg-preserved : goal.loop-leg-preserved
loop-leg-preserved c = goes _ _ _ _ c.loop-leg.invariant (omega arith) _ _ c.in_ok-read_symbol.ensures

pub returns : goal.returns
returns c =
    let l : c.args.at + 10 * c.from.result - c.args.at ≡ 10 * c.args.count = omega arith in
    let e : first_bad_leg c.args.count c.args.m.now c.args.at ≡ None = elim c.loop-leg-test.branch [
      | else-loop-leg-test w ↦ ends _ _ _ _ c.loop-leg.invariant (omega arith)
      | then-loop-leg-test+in_ok-read_symbol+else-end-leg-gt10 w ↦
          ends _ _ _ _ (goes _ _ _ _ c.loop-leg.invariant (omega arith) _ _ w.in_ok-read_symbol.ensures) (omega arith)
    ] in
    let f : legs_meaning c.from-2.result ≡ legs_in (take (c.args.at + 10 * c.from.result - c.args.at) (drop c.args.at c.args.m.now)) = c.from-2.ensures in
    rw (e, f, l) refl
