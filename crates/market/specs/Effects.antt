-- What each kind of message sets: one clause for each in `effect`. Assumes nothing.
use Rattle.std.specs.Prelude.{ℕ, cond, List, [], ◌∷◌, Some, None, Option, ◌==◌}
use Rattle.std.specs.Option.{option_map}
use Rattle.std.specs.List.{slice_get}
use Rattle.wire_types.specs.Legs.{LegRecord}
use Rattle.wire_types.specs.Records.{Record, Makeup, outright, spread, variance_future, DefinitionRecord, LimitsRecord, SettlementRecord, SnapshotRecord, TradeRecord}
use Rattle.wire_types.specs.Records as the_record
use Rattle.wire_types.specs.declared.code.Side.{Side}
use Rattle.wire_types.specs.declared.code.Side.TheVariants.{Bid, Ask}
use Rattle.wire_types.specs.declared.code.Status.{Status}
use Rattle.wire_types.specs.declared.code.Status.TheVariants.{Suspended}
use Rattle.wire_types.specs.declared.instrument.Leg.{Leg}
use Rattle.wire_types.specs.declared.message.Time.{Time}
use Rattle.wire_types.specs.declared.message.TimeReference.{TimeReference}
use Rattle.wire_types.specs.declared.quote.LastTrade.{LastTrade}
use Rattle.wire_types.specs.declared.quote.Quote.{Quote}
use Rattle.market.specs.declared.clock.Clock.{Clock}
use Rattle.market.specs.declared.row.Definition.{Definition}
use Rattle.market.specs.declared.row.Limits.{Limits}
use Rattle.market.specs.declared.row.Quotes.{Quotes}
use Rattle.market.specs.declared.row.Row.{Row}
use Rattle.market.specs.declared.row.Settlement.{Settlement}

-- ---- rows

-- the quote part of a new row, and one that is reset
abbrev pub no_quotes : Quotes
no_quotes = record { bid = None; ask = None; last = None; volume = 0; status = Suspended }

-- a new row of a symbol
abbrev pub new_row : List ℕ → Row
new_row s = record { symbol = s; quotes = no_quotes; settlement = None; limits = None; definition = None }

-- a row that is not in use: a new one whose symbol is six spaces
abbrev pub blank : Row
blank = new_row (32 ∷ 32 ∷ 32 ∷ 32 ∷ 32 ∷ 32 ∷ [])

-- what is set in one row
pub data Change : Type 0 where
  quotes : (Quotes → Quotes) → Change
  settlement : Settlement → Change
  limits : Limits → Change
  definition : Definition → Change

-- a row with its quote part changed
abbrev pub requoted : (Quotes → Quotes) → Row → Row
requoted f r = record { symbol = r.symbol; quotes = f r.quotes; settlement = r.settlement; limits = r.limits; definition = r.definition }

-- a row after a change
abbrev pub changed : Change → Row → Row
changed (quotes f) r = requoted f r
changed (settlement x) r = record { symbol = r.symbol; quotes = r.quotes; settlement = Some x; limits = r.limits; definition = r.definition }
changed (limits x) r = record { symbol = r.symbol; quotes = r.quotes; settlement = r.settlement; limits = Some x; definition = r.definition }
changed (definition x) r = record { symbol = r.symbol; quotes = r.quotes; settlement = r.settlement; limits = r.limits; definition = Some x }

-- a row with its quote part reset
abbrev pub cleared : Row → Row
cleared r = requoted (λ _. no_quotes) r

-- what a message does: nothing, or it sets the clock, resets every row's quote part, or sets something in the row of a symbol
pub data Effect : Type 0 where
  nothing : Effect
  clock : (Clock → Clock) → Effect
  clear : Effect
  row : List ℕ → Change → Effect

-- ---- what each message sets

-- quantity 0 is no bid and no ask, size 0 no trade
abbrev pub quoted : Quote → Option Quote
quoted q = cond (q.quantity == 0) None (Some q)

abbrev pub traded : LastTrade → Option LastTrade
traded t = cond (t.size == 0) None (Some t)

abbrev pub at_time : Time → Clock → Clock
at_time x c = record { seconds = x.seconds; epoch = x.epoch; midnight = c.midnight; trade_date = c.trade_date }

abbrev pub at_reference : TimeReference → Clock → Clock
at_reference x c = record { seconds = x.seconds; epoch = c.epoch; midnight = x.midnight; trade_date = x.trade_date }

abbrev pub in_status : Status → Quotes → Quotes
in_status s q = record { bid = q.bid; ask = q.ask; last = q.last; volume = q.volume; status = s }

abbrev pub in_snapshot : SnapshotRecord → Quotes
in_snapshot x = record { bid = quoted x.bid; ask = quoted x.ask; last = traded x.last; volume = x.volume; status = x.status }

abbrev pub both_sides : Option Quote → Option Quote → Quotes → Quotes
both_sides b a q = record { bid = b; ask = a; last = q.last; volume = q.volume; status = q.status }

abbrev pub one_side : Side → Option Quote → Quotes → Quotes
one_side Bid x q = both_sides x q.ask q
one_side Ask x q = both_sides q.bid x q

abbrev pub as_last : TradeRecord → Option LastTrade
as_last x = traded (record { price = x.price; size = x.quantity; condition = x.condition })

abbrev pub at_trade : TradeRecord → Quotes → Quotes
at_trade x q = record { bid = q.bid; ask = q.ask; last = as_last x; volume = x.volume; status = q.status }

abbrev pub settled : SettlementRecord → Settlement
settled x = record { trade_date = x.trade_date; price = x.price; issue = x.issue }

abbrev pub limited : LimitsRecord → Limits
limited x = record { upper = x.upper; lower = x.lower }

abbrev pub kept_leg : LegRecord → Leg
kept_leg x = record { ratio = x.ratio; symbol = x.symbol }

-- the leg at a place, where there is one
abbrev pub leg_at : List LegRecord → ℕ → Option Leg
leg_at xs i = option_map kept_leg (slice_get xs i)

-- a spread has at most four
abbrev pub four_legs : List LegRecord → List (Option Leg)
four_legs xs = leg_at xs 0 ∷ leg_at xs 1 ∷ leg_at xs 2 ∷ leg_at xs 3 ∷ []

abbrev pub kept_legs : Makeup → List (Option Leg)
kept_legs outright = None ∷ None ∷ None ∷ None ∷ []
kept_legs (spread xs) = four_legs xs
kept_legs (variance_future v) = None ∷ None ∷ None ∷ None ∷ []

abbrev pub defined : DefinitionRecord → Definition
defined x =
    record {
      report_symbol = x.report_symbol;
      flags = x.flags;
      expiration = x.expiration;
      contract_size = x.contract_size;
      listing = x.listing;
      increment = x.increment;
      contract_date = x.contract_date;
      legs = kept_legs x.structure;
    }

-- ---- the table

abbrev pub effect : Record → Effect
effect (the_record.time x) = clock (at_time x)
effect (the_record.time_reference x) = clock (at_reference x)
effect (the_record.unit_clear t) = clear
effect (the_record.trading_status x) = row x.symbol (quotes (in_status x.status))
effect (the_record.snapshot x) = row x.symbol (quotes (λ _. in_snapshot x))
effect (the_record.single_side x) = row x.symbol (quotes (one_side x.side (quoted x.quote)))
effect (the_record.two_side x) = row x.symbol (quotes (both_sides (quoted x.bid) (quoted x.ask)))
effect (the_record.top_trade x) = row x.symbol (quotes (at_trade x))
effect (the_record.settlement x) = row x.symbol (settlement (settled x))
effect (the_record.definition x) = row x.symbol (definition (defined x))
effect (the_record.price_limits x) = row x.symbol (limits (limited x))
effect (the_record.end_of_session t) = nothing
effect (the_record.end_of_day_summary x) = nothing
effect (the_record.open_interest x) = nothing
effect (the_record.spin_image_available n) = nothing
effect (the_record.spin_response x) = nothing
effect (the_record.spin_finished n) = nothing
effect (the_record.unlisted b) = nothing

-- what an effect acts on
pub data Aim : Type 0 where
  at_nothing : Aim
  at_clock : Aim
  at_every_row : Aim
  at_row : List ℕ → Aim

abbrev pub aim : Effect → Aim
aim nothing = at_nothing
aim (clock f) = at_clock
aim clear = at_every_row
aim (row s x) = at_row s

-- what an effect makes of the clock
abbrev pub ticked : Effect → Clock → Clock
ticked nothing c = c
ticked (clock f) c = f c
ticked clear c = c
ticked (row s x) c = c

-- what an effect makes of a row that it acts on
abbrev pub edited : Effect → Row → Row
edited nothing r = r
edited (clock f) r = r
edited clear r = cleared r
edited (row s x) r = changed x r
