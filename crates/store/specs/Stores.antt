-- What a store's rows mean: those in use, and the spare ones behind them. Assumes nothing.
use Rattle.std.specs.Prelude.{ℕ, Bool, not, ◌&&◌, List, length, take, drop, nat_le}
use Rattle.market.specs.Market.{has}
use Rattle.market.specs.declared.row.Row.{Row}
use Rattle.store.specs.declared.store.Store.{Store}

abbrev pub used : Store → List Row
used st = take st.count st.rows.now

abbrev pub spare : Store → List Row
spare st = drop st.count st.rows.now

abbrev pub size : Store → ℕ
size st = length st.rows.now

-- a row of the symbol has to be made, and each row is in use
abbrev pub full : List ℕ → Store → Bool
full s st = not (has s (used st)) && nat_le (size st) (length (used st))
