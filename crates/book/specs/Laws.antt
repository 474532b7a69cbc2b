-- What holds of every board and every watch, whatever was done with them. Assumes nothing.
use Rattle.std.specs.Prelude.{◌≡◌, ℕ, ◌-◌, false, List, ◌++◌, length, replicate}
use Rattle.market.specs.Effects.{blank}
use Rattle.market.specs.Market.{full_for}
use Rattle.book.specs.Views.{board_view, lent_rows, watch_view}
use Rattle.book.specs.declared.board.Board.{Board}
use Rattle.book.specs.declared.watch.Watch.{Watch}

-- the rows lent to a board hold its market's rows, and behind them blank ones
abbrev pub RestIsBlank : Type 0
RestIsBlank = (b : Board) → lent_rows b ≡ (board_view b).market.rows ++ replicate ((board_view b).kind.capacity - length (board_view b).market.rows) blank

-- a watch is never full
abbrev pub WatchAlwaysFits : Type 0
WatchAlwaysFits = (w : Watch) (x : List ℕ) → full_for (watch_view w) x ≡ false
