-- Where a symbol stands among rows. Assumes nothing.
use Rattle.std.specs.Prelude.{ℕ, suc, cond, List, [], ◌∷◌, Ok, Err, Result}
use Rattle.market.specs.Market.{has}
use Rattle.market.specs.Symbols.{precedes}
use Rattle.market.specs.declared.row.Row.{Row}

-- how many rows in front stand before the symbol: its own place among rows that ascend
unfoldable pub position : List ℕ → List Row → ℕ
position s [] = 0
position s (r ∷ rs) = cond (precedes r.symbol s) (suc (position s rs)) 0

-- the place of the symbol's row, or the place where it would stand
abbrev pub sought : List ℕ → List Row → Result ℕ ℕ
sought s rs = cond (has s rs) (Ok (position s rs)) (Err (position s rs))
