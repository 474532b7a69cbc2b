use Rattle.std.proofs.Common.{ap, ◌∙◌, rules}
use Rattle.std.proofs.lemmas.List.Sorted.{IsPartitionPoint-from_clause}
use Rattle.market.specs.Market.{ascends}
use Rattle.market.specs.Symbols.{precedes}
use Rattle.store.specs.Places.{position}
use Rattle.store.proofs.Positions.{parted, place_at}
use Rattle.store.proofs.store.Store.place.Goals as goal

pub returns : goal.returns
returns c =
    let s = c.args.symbol.now in
    let rs = c.used.result.now in
    let point = c.partition_point.ensures in
    let split = IsPartitionPoint-from_clause (λ r. precedes r.symbol s) rs _ point.partitioned (parted s rs (ap ascends c.used.ensures ∙ c.args.self.now.sorted)) (λ a r q k. search rules) in
    place_at s rs _ point.bound split ∙ ap (position s) c.used.ensures
