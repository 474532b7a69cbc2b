-- The two kinds of books, and what each means when it is made. Assumes nothing.
use Rattle.std.specs.Prelude.{ℕ, true, cond, ◌&&◌, List, Some, None, Ok, Err, Option, Result, nat_le}
use Rattle.market.specs.Market.{Market, Kind, View, start}
use Rattle.market.specs.Symbols.{same}
use Rattle.wire_fields.specs.Symbols.{first_bad}
use Rattle.book.specs.Refusals.{Told}

-- a board follows every symbol, and has room for n rows
abbrev pub board_kind : ℕ → Kind
board_kind n = record { follows = λ _. true; capacity = n }

-- a watch follows one symbol, and has room for its row
abbrev pub watch_kind : List ℕ → Kind
watch_kind s = record { follows = λ t. same s t; capacity = 1 }

-- a board is made on 1 to 4,096 rows, else refusal 2
abbrev pub rows_checked : ℕ → Result (Unit {0}) Told
rows_checked n = cond (nat_le 1 n && nat_le n 4096) (Ok tt) (Err (record { number = 2; byte = None }))

-- an empty book of a kind
abbrev pub empty_view : Kind → View Market Kind
empty_view k = record { market = start; kind = k }

abbrev pub made_unless : Option ℕ → View Market Kind → Result (View Market Kind) Told
made_unless None v = Ok v
made_unless (Some b) v = Err (record { number = 10; byte = Some b })

-- a watch of a symbol is made empty, unless a byte of the symbol is bad: refusal 10, the lowest told
abbrev pub watch_made : List ℕ → Result (View Market Kind) Told
watch_made s = made_unless (first_bad 6 s 0) (empty_view (watch_kind s))
