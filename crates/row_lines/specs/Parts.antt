-- The parts of a row as text, a dash for what is absent. Assumes nothing.
use Rattle.std.specs.Prelude.{ℕ, List, ◌++◌, Some, None, codes, decimal, Option}
use Rattle.market.specs.declared.row.Limits.{Limits}
use Rattle.market.specs.declared.row.Quotes.{Quotes}
use Rattle.market.specs.declared.row.Settlement.{Settlement}
use Rattle.row_lines.specs.Codes.{condition_letter, issue_letter, status_letter}
use Rattle.wire_words.specs.Bytes.{hex_byte}
use Rattle.std.specs.Fmt.{signed_decimal}
use Rattle.wire_types.specs.declared.quote.LastTrade.{LastTrade}
use Rattle.wire_types.specs.declared.quote.Quote.{Quote}

-- PRICE QUANTITY
abbrev pub quote_part : Option Quote → List ℕ
quote_part None = codes "-"
quote_part (Some q) = signed_decimal q.price ++ (codes " " ++ decimal q.quantity)

-- PRICE SIZE CONDITION
abbrev pub trade_part : Option LastTrade → List ℕ
trade_part None = codes "-"
trade_part (Some t) = signed_decimal t.price ++ (codes " " ++ (decimal t.size ++ (codes " " ++ hex_byte (condition_letter t.condition))))

abbrev pub quotes_part : Quotes → List ℕ
quotes_part q =
    codes "bid " ++ (quote_part q.bid
    ++ (codes " ask " ++ (quote_part q.ask
    ++ (codes " last " ++ (trade_part q.last
    ++ (codes " volume " ++ (decimal q.volume
    ++ (codes " status " ++ status_letter q.status))))))))

-- DATE PRICE ISSUE
abbrev pub settlement_part : Option Settlement → List ℕ
settlement_part None = codes "-"
settlement_part (Some s) = decimal s.trade_date ++ (codes " " ++ (signed_decimal s.price ++ (codes " " ++ issue_letter s.issue)))

-- LOWER UPPER
abbrev pub limits_part : Option Limits → List ℕ
limits_part None = codes "-"
limits_part (Some l) = signed_decimal l.lower ++ (codes " " ++ signed_decimal l.upper)
