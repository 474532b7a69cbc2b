-- What a board and a watch mean, with the facts that the interface asks of every kind of book. Assumes nothing.
use Rattle.std.specs.Prelude.{◌≡◌, ◌≤◌, true, List, length, Some, None, Option, option_to_list, refl}
use Rattle.std.proofs.Common.{arith, length-take}
use Rattle.market.specs.Market.{Market, Kind, View, ascends}
use Rattle.market.specs.declared.row.Row.{Row}
use Rattle.store.specs.Stores.{used, size}
use Rattle.book.specs.Kinds.{board_kind, watch_kind}
use Rattle.book.specs.declared.board.Board.{Board}
use Rattle.book.specs.declared.watch.Watch.{Watch}

-- a board shows the rows in use
abbrev pub board_view : Board → View Market Kind
board_view b = record { market = record { clock = b.clock; rows = used b.store }; kind = board_kind (size b.store) }

-- what the rows hold that were lent to a board
abbrev pub lent_rows : Board → List Row
lent_rows b = b.store.rows.now

pub board_room : (b : Board) → length (board_view b).market.rows ≤ (board_view b).kind.capacity
board_room b = simp length-take (omega arith)

pub board_roomy : (b : Board) → 1 ≤ (board_view b).kind.capacity
board_roomy b = b.some

pub board_ordered : (b : Board) → ascends (board_view b).market.rows ≡ true
board_ordered b = b.store.sorted

-- a watch shows its row, if it has one
abbrev pub watch_view : Watch → View Market Kind
watch_view w = record { market = record { clock = w.clock; rows = option_to_list w.row }; kind = watch_kind w.symbol }

one_or_none : (o : Option Row) → length (option_to_list o) ≤ 1
one_or_none None = omega arith
one_or_none (Some r) = omega arith

pub watch_room : (w : Watch) → length (watch_view w).market.rows ≤ 1
watch_room w = one_or_none w.row

one_ascends : (o : Option Row) → ascends (option_to_list o) ≡ true
unfolding ascends
one_ascends None = refl
one_ascends (Some r) = refl

pub watch_ordered : (w : Watch) → ascends (watch_view w).market.rows ≡ true
watch_ordered w = one_ascends w.row
