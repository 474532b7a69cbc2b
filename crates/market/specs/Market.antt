-- What a market is, what a message makes of it, and what a book means. Assumes nothing.
use Rattle.std.specs.Prelude.{ℕ, Bool, true, false, cond, not, ◌&&◌, List, [], ◌∷◌, map, length, is_some, Some, None, Ok, Err, Option, Result, nat_le}
use Rattle.std.specs.Ordering.{match_ordering as by_order}
use Rattle.wire_messages.specs.Forms.{decoded}
use Rattle.wire_types.specs.Records.{Record}
use Rattle.wire_types.specs.Refusals.{Breach}
use Rattle.wire_types.specs.declared.header.Carrier.TheVariants.{Datagram}
use Rattle.market.specs.Effects.{Effect, nothing, clock, clear, row, effect, changed, cleared, new_row}
use Rattle.market.specs.Symbols.{against, precedes, same}
use Rattle.market.specs.declared.clock.Clock.{Clock}
use Rattle.market.specs.declared.row.Row.{Row}

pub record Market : Type 0 where
  pub clock : Clock
  pub rows : List Row

abbrev pub zero_clock : Clock
zero_clock = record { seconds = 0; epoch = 0; midnight = 0; trade_date = 0 }

-- the market before any message
abbrev pub start : Market
start = record { clock = zero_clock; rows = [] }

-- ---- rows

-- s stands before the first of the rows
abbrev pub before : List ℕ → List Row → Bool
before s [] = true
before s (r ∷ rs) = precedes s r.symbol

-- the rows stand in strictly ascending order of their symbols
unfoldable pub ascends : List Row → Bool
ascends [] = true
ascends (r ∷ rs) = before r.symbol rs && ascends rs

-- the row of a symbol
unfoldable pub lookup : List ℕ → List Row → Option Row
lookup s [] = None
lookup s (r ∷ rs) = cond (same r.symbol s) (Some r) (lookup s rs)

abbrev pub has : List ℕ → List Row → Bool
has s rs = is_some (lookup s rs)

-- the rows with that of a symbol changed by f; where it has none, a new row is made at its place first
unfoldable pub upsert : List ℕ → (Row → Row) → List Row → List Row
upsert s f [] = f (new_row s) ∷ []
upsert s f (r ∷ rs) =
    by_order (against r.symbol s)
    (r ∷ upsert s f rs)
    (f r ∷ rs)
    (f (new_row s) ∷ (r ∷ rs))

-- ---- messages

-- bytes that break a rule of form do nothing
abbrev pub effect_of : Result Record Breach → Effect
effect_of (Ok x) = effect x
effect_of (Err e) = nothing

-- what the message in front of the bytes does
unfoldable pub heard : List ℕ → Effect
heard x = effect_of (decoded Datagram x)

abbrev pub with_clock : Clock → Market → Market
with_clock c m = record { clock = c; rows = m.rows }

abbrev pub with_rows : List Row → Market → Market
with_rows rs m = record { clock = m.clock; rows = rs }

-- the market after an effect, with no bound on rows; follows tells which symbols count
abbrev pub acted : (List ℕ → Bool) → Effect → Market → Market
acted follows nothing m = m
acted follows (clock f) m = with_clock (f m.clock) m
acted follows clear m = with_rows (map cleared m.rows) m
acted follows (row s c) m = cond (follows s) (with_rows (upsert s (changed c) m.rows) m) m

-- the market after the message in front of the bytes
unfoldable pub after : (List ℕ → Bool) → List ℕ → Market → Market
after follows x m = acted follows (heard x) m

-- ---- books

-- what a book never changes: the symbols that it follows, and how many rows it has room for
pub record Kind : Type 0 where
  pub follows : List ℕ → Bool
  pub capacity : ℕ

-- what a book means: a market, and the book's kind; laws about books can be stated for any M and K
pub record View (M K : Type 0) : Type 0 where
  pub market : M
  pub kind : K

abbrev pub with_market : {M K : Type 0} → View M K → M → View M K
with_market v m = record { market = m; kind = v.kind }

-- an effect needs a row for which there is no room
abbrev pub short : Kind → Effect → Market → Bool
short k nothing m = false
short k (clock f) m = false
short k clear m = false
short k (row s c) m = k.follows s && (not (has s m.rows) && nat_le k.capacity (length m.rows))

-- a market of a kind of book has no room for the message in front of the bytes
unfoldable pub lacks : Kind → List ℕ → Market → Bool
lacks k x m = short k (heard x) m

-- a book is full for a message: it would make a row, and every row is in use
abbrev pub full_for : View Market Kind → List ℕ → Bool
full_for v x = lacks v.kind x v.market

-- the book after a message: unchanged if it is full for it
abbrev pub applied : View Market Kind → List ℕ → View Market Kind
applied v x = cond (full_for v x) v (with_market v (after v.kind.follows x v.market))

-- ---- many messages

-- what messages make of a market, one after another
unfoldable pub after_all : (List ℕ → Bool) → List (List ℕ) → Market → Market
after_all follows [] m = m
after_all follows (x ∷ xs) m = after_all follows xs (after follows x m)

-- what messages give: the starting market after each of them in turn
abbrev pub gives : (List ℕ → Bool) → List (List ℕ) → Market
gives follows xs = after_all follows xs start

-- a book after many messages
unfoldable pub applied_all : View Market Kind → List (List ℕ) → View Market Kind
applied_all v [] = v
applied_all v (x ∷ xs) = applied_all (applied v x) xs

-- the book that it would be with no bound on rows
abbrev pub unbounded : View Market Kind → List (List ℕ) → View Market Kind
unbounded v xs = with_market v (after_all v.kind.follows xs v.market)
