use Rattle.market.proofs.Computed.{negative_bid_shown, short_prices_end_there, third_does_not_fit, clear_keeps_settlement, clock_goes_on, broken_are_passed}
use Rattle.market.proofs.laws.examples_hold.Goals as goal

pub returns : goal.returns
returns c = record {
  negative = negative_bid_shown;
  ends = short_prices_end_there;
  full = third_does_not_fit;
  clear = clear_keeps_settlement;
  clock = clock_goes_on;
  broken = broken_are_passed;
}
