-- A row and the clock, each as one line. Assumes nothing.
use Rattle.std.specs.Prelude.{ℕ, List, ◌++◌, codes, decimal}
use Rattle.market.specs.declared.clock.Clock.{Clock}
use Rattle.market.specs.declared.row.Row.{Row}
use Rattle.row_lines.specs.Hex.{hex_symbol}
use Rattle.row_lines.specs.Instruments.{definition_part}
use Rattle.row_lines.specs.Parts.{quotes_part, settlement_part, limits_part}

abbrev pub clock_line : Clock → List ℕ
clock_line c =
    codes "clock seconds " ++ (decimal c.seconds
    ++ (codes " epoch " ++ (decimal c.epoch
    ++ (codes " midnight " ++ (decimal c.midnight
    ++ (codes " date " ++ decimal c.trade_date))))))

abbrev pub row_line : Row → List ℕ
row_line r =
    codes "row " ++ (hex_symbol r.symbol
    ++ (codes " " ++ (quotes_part r.quotes
    ++ (codes " settlement " ++ (settlement_part r.settlement
    ++ (codes " limits " ++ (limits_part r.limits
    ++ (codes " definition " ++ definition_part r.definition))))))))
