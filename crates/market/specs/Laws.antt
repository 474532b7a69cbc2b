-- What holds of markets and books, whatever the messages. Assumes nothing.
use Rattle.std.specs.Prelude.{◌≡◌, ℕ, Bool, true, false, cond, List, [], ◌∷◌, map, Some, None, Err, Option, ◌≢◌}
use Rattle.std.specs.Option.{unwrap_or}
use Rattle.std.specs.List.{slice_get}
use Rattle.wire_messages.specs.Forms.{decoded}
use Rattle.wire_types.specs.Refusals.{Breach}
use Rattle.wire_types.specs.declared.header.Carrier.TheVariants.{Datagram}
use Rattle.market.specs.Effects.{Change, nothing, clock, clear, row, changed, cleared, new_row}
use Rattle.market.specs.Market.{Market, Kind, View, ascends, lookup, has, heard, with_clock, with_rows, after, lacks, full_for, applied, applied_all, unbounded}
use Rattle.market.specs.Symbols.{same}
use Rattle.market.specs.declared.clock.Clock.{Clock}
use Rattle.market.specs.declared.row.Row.{Row}

-- no message puts rows out of order
abbrev pub RowsStayAscending : Type 0
RowsStayAscending = (follows : List ℕ → Bool) (x : List ℕ) (m : Market) → ascends m.rows ≡ true → ascends (after follows x m).rows ≡ true

-- ---- what a message touches

-- the rows of all other symbols, in their order
unfoldable pub without : List ℕ → List Row → List Row
without s [] = []
without s (r ∷ rs) = cond (same r.symbol s) (without s rs) (r ∷ without s rs)

-- what differs between a market and the next after a message: nothing; of a message for the clock, only that; of a Unit Clear, only
-- quote parts, which are reset; of a message for a symbol, only that symbol's row
pub data Touches (x : List ℕ) (m n : Market) : Type 0 where
  nothing_touched : n ≡ m → Touches x m n
  clock_touched : (f : Clock → Clock) → heard x ≡ clock f → n.rows ≡ m.rows → Touches x m n
  quotes_touched : heard x ≡ clear → n.clock ≡ m.clock → n.rows ≡ map cleared m.rows → Touches x m n
  row_touched : (s : List ℕ) (c : Change) → heard x ≡ row s c → n.clock ≡ m.clock → without s n.rows ≡ without s m.rows → Touches x m n

abbrev pub TouchesOneThing : Type 0
TouchesOneThing = (follows : List ℕ → Bool) (x : List ℕ) (m : Market) → Touches x m (after follows x m)

-- ---- what it sets there

-- bytes that break a rule of form do nothing
abbrev pub BrokenDoesNothing : Type 0
BrokenDoesNothing = (x : List ℕ) (e : Breach) → decoded Datagram x ≡ Err e → heard x ≡ nothing

-- what a message makes of a market n, in every kind of book, none of which is full for it
abbrev pub Makes : List ℕ → Market → Market → Type 0
Makes x m n = (k : Kind) → (after k.follows x m ≡ n) × (lacks k x m ≡ false)

abbrev pub NothingChangesNothing : Type 0
NothingChangesNothing = (x : List ℕ) (m : Market) → heard x ≡ nothing → Makes x m m

-- a message for the clock sets it, whatever a book follows
abbrev pub ClockIsSet : Type 0
ClockIsSet = (x : List ℕ) (m : Market) (f : Clock → Clock) → heard x ≡ clock f → Makes x m (with_clock (f m.clock) m)

-- so does a Unit Clear reset the quote part of every row
abbrev pub ClearResetsAll : Type 0
ClearResetsAll = (x : List ℕ) (m : Market) → heard x ≡ clear → Makes x m (with_rows (map cleared m.rows) m)

-- a message for a symbol that is followed sets its change in the symbol's row, or in a new one
abbrev pub OwnRowIsSet : Type 0
OwnRowIsSet =
    (follows : List ℕ → Bool) (x : List ℕ) (m : Market) (s : List ℕ) (c : Change) → heard x ≡ row s c → follows s ≡ true → ascends m.rows ≡ true
    → lookup s (after follows x m).rows ≡ Some (changed c (unwrap_or (lookup s m.rows) (new_row s)))

-- a message for a symbol that is not followed changes nothing, and never finds a book full
abbrev pub UnfollowedChangesNothing : Type 0
UnfollowedChangesNothing =
    (k : Kind) (x : List ℕ) (m : Market) (s : List ℕ) (c : Change) → heard x ≡ row s c → k.follows s ≡ false
    → (after k.follows x m ≡ m) × (lacks k x m ≡ false)

-- ---- what is found

-- the row r stands at place i, and no other row has the symbol s
pub record Stands (s : List ℕ) (rs : List Row) (r : Row) (i : ℕ) : Type 0 where
  pub is : slice_get rs i ≡ Some r
  pub alone : (j : ℕ) (q : Row) → slice_get rs j ≡ Some q → q.symbol ≡ s → j ≡ i

-- the row found is the one row that has the symbol; where none is found, no row has it
abbrev pub Found : List ℕ → List Row → Option Row → Type 0
Found s rs (Some r) = (r.symbol ≡ s) × ((i : ℕ) × Stands s rs r i)
Found s rs None = (i : ℕ) (q : Row) → slice_get rs i ≡ Some q → q.symbol ≢ s

abbrev pub FindsExactly : Type 0
FindsExactly = (s : List ℕ) (rs : List Row) → ascends rs ≡ true → Found s rs (lookup s rs)

-- ---- when a book is full

-- a book is never full for a symbol that it has
abbrev pub KnownAlwaysFits : Type 0
KnownAlwaysFits = (k : Kind) (x : List ℕ) (m : Market) (s : List ℕ) (c : Change) → heard x ≡ row s c → has s m.rows ≡ true → lacks k x m ≡ false

-- no message finds the book full
abbrev pub NeverFull : View Market Kind → List (List ℕ) → Type 0
NeverFull v [] = Unit {0}
NeverFull v (x ∷ xs) = (full_for v x ≡ false) × NeverFull (applied v x) xs

-- a book that is never full shows the fold of its messages
abbrev pub UnboundedIsFold : Type 0
UnboundedIsFold = (v : View Market Kind) (xs : List (List ℕ)) → NeverFull v xs → applied_all v xs ≡ unbounded v xs
