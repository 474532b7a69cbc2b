use Rattle.std.proofs.Common.{refl, arith}
use Rattle.market.specs.Market.{ascends}
use Rattle.store.proofs.store.Store.clear.Goals as goal

pub invariant_of-self : goal.invariant_of-self
unfolding ascends
invariant_of-self c = record { within = omega arith; sorted = refl }
