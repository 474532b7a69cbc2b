-- The clock, and the cells of a market's tables, as text. Assumes nothing.
use Rattle.std.specs.Prelude.{ℕ, List, ◌++◌, Some, None, codes, decimal, Option}
use Rattle.market.specs.declared.clock.Clock.{Clock}
use Rattle.market.specs.declared.row.Limits.{Limits}
use Rattle.market.specs.declared.row.Settlement.{Settlement}
use Rattle.wire_types.specs.Words.{condition_word, issue_word}
use Rattle.wire_types.specs.declared.quote.LastTrade.{LastTrade}
use Rattle.wire_types.specs.declared.quote.Quote.{Quote}
use Rattle.wire_words.specs.Decimals.{decimal_words}

-- PRICE x QUANTITY
abbrev pub quote_cell : Option Quote → List ℕ
quote_cell None = codes "-"
quote_cell (Some q) = decimal_words 4 q.price ++ (codes " x " ++ decimal q.quantity)

-- PRICE x SIZE CONDITION
abbrev pub trade_cell : Option LastTrade → List ℕ
trade_cell None = codes "-"
trade_cell (Some t) = decimal_words 4 t.price ++ (codes " x " ++ (decimal t.size ++ (codes " " ++ condition_word t.condition)))

-- PRICE DATE ISSUE
abbrev pub settlement_cell : Option Settlement → List ℕ
settlement_cell None = codes "-"
settlement_cell (Some s) = decimal_words 4 s.price ++ (codes " " ++ (decimal s.trade_date ++ (codes " " ++ issue_word s.issue)))

-- LOWER to UPPER
abbrev pub limits_cell : Option Limits → List ℕ
limits_cell None = codes "-"
limits_cell (Some l) = decimal_words 4 l.lower ++ (codes " to " ++ decimal_words 4 l.upper)

abbrev pub clock_words : Clock → List ℕ
clock_words c =
    codes "clock: " ++ (decimal c.seconds
    ++ (codes " seconds, epoch " ++ (decimal c.epoch
    ++ (codes ", midnight " ++ (decimal c.midnight
    ++ (codes ", trade date " ++ decimal c.trade_date))))))
