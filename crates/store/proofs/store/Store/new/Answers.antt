use Rattle.std.proofs.Common.{refl, arith}
use Rattle.market.specs.Market.{ascends}
use Rattle.store.proofs.store.Store.new.Goals as goal

pub invariant_of-result : goal.invariant_of-result
unfolding ascends
invariant_of-result c = record { within = omega arith; sorted = refl }
