-- The statements of specs/Examples, computed.
use Rattle.std.proofs.Common.{refl}
use Rattle.wire_fields.specs.Symbols.{first_bad}
use Rattle.market.specs.Examples.{NegativeBidShown, ShortPricesEndThere, ThirdDoesNotFit, ClearKeepsSettlement, ClockGoesOn, BrokenArePassed}
use Rattle.market.specs.Market.{lookup, upsert, heard, after, lacks, after_all}
use Rattle.market.specs.Symbols.{against}

pub negative_bid_shown : NegativeBidShown
unfolding first_bad against upsert heard after after_all
negative_bid_shown = refl

pub short_prices_end_there : ShortPricesEndThere
unfolding first_bad against upsert heard after after_all
short_prices_end_there = refl

pub third_does_not_fit : ThirdDoesNotFit
unfolding first_bad against lookup upsert heard after lacks after_all
third_does_not_fit = (refl, refl, refl, refl)

pub clear_keeps_settlement : ClearKeepsSettlement
unfolding first_bad against upsert heard after after_all
clear_keeps_settlement = refl

pub broken_are_passed : BrokenArePassed
unfolding first_bad against upsert heard after after_all
broken_are_passed = (refl, refl)

pub clock_goes_on : ClockGoesOn
unfolding heard after after_all
clock_goes_on = (refl, refl)
