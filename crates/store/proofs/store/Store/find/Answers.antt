use Rattle.std.proofs.Common.{◌≡◌, ℕ, Some, Ok, Err, Result, sym, ◌∙◌}
use Rattle.std.proofs.lemmas.Option.{slice_get-get_or}
use Rattle.std.specs.Result.{result_ok}
use Rattle.market.specs.Effects.{blank}
use Rattle.store.specs.Stores.{used}
use Rattle.store.proofs.Steps.{found, found_row}
use Rattle.store.proofs.store.Store.find.Goals as goal

ok_is : (r : Result ℕ ℕ) (at : ℕ) → Some at ≡ result_ok r → Ok at ≡ r
ok_is (Ok i) at e = cc
ok_is (Err i) at e = cc

pub returns : goal.returns
returns c =
    let rs = used c.args.self.now in
    let there = found c.args.symbol.now rs c.in_ok-at.at c.args.self.now.sorted (ok_is c.seek.result c.in_ok-at.at c.in_ok-at.ensures.value ∙ c.seek.ensures) in
    c.row_at.ensures ∙ slice_get-get_or rs c.in_ok-at.at blank there.inside ∙ sym (found_row _ rs _ there)
