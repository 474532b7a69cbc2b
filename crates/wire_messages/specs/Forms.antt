-- What the bytes of one message mean, or which rule they break first. Assumes nothing.
use Rattle.std.specs.Prelude.{ℕ, cond, ◌&&◌, List, length, take, Ok, Err, Result, nat_le, nat_lt, slice_index}
use Rattle.wire_definitions.specs.Definitions.{definition_at}
use Rattle.wire_messages.specs.Kinds.{kind_of, least, table_length}
use Rattle.wire_notices.specs.Layouts.{trading_status_at, settlement_at, price_limits_at, end_of_day_summary_at, open_interest_at}
use Rattle.wire_quotes.specs.Layouts.{snapshot_short_at, snapshot_long_at, single_side_short_at, single_side_long_at, two_side_short_at, two_side_long_at, top_trade_at}
use Rattle.wire_session.specs.Layouts.{time_at, time_reference_at, unit_clear_at, end_of_session_at, spin_image_available_at, spin_response_at, spin_finished_at}
use Rattle.wire_types.specs.Records.{Record, unlisted}
use Rattle.wire_types.specs.Refusals.{Breach, breach, and_then}
use Rattle.wire_types.specs.declared.header.Carrier.{Carrier}
use Rattle.wire_types.specs.declared.kind.FixedKind.{FixedKind}
use Rattle.wire_types.specs.declared.kind.FixedKind.TheVariants as the
use Rattle.wire_types.specs.declared.kind.Kind.{Kind}
use Rattle.wire_types.specs.declared.kind.Kind.TheVariants as the_kind

-- what the bytes of a table say
abbrev pub fixed_at : FixedKind → List ℕ → Result Record Breach
fixed_at the.Time m = time_at m
fixed_at the.TimeReference m = time_reference_at m
fixed_at the.UnitClear m = unit_clear_at m
fixed_at the.TradingStatus m = trading_status_at m
fixed_at the.SnapshotShort m = snapshot_short_at m
fixed_at the.SnapshotLong m = snapshot_long_at m
fixed_at the.SingleSideShort m = single_side_short_at m
fixed_at the.SingleSideLong m = single_side_long_at m
fixed_at the.TwoSideShort m = two_side_short_at m
fixed_at the.TwoSideLong m = two_side_long_at m
fixed_at the.TopTrade m = top_trade_at m
fixed_at the.Settlement m = settlement_at m
fixed_at the.PriceLimits m = price_limits_at m
fixed_at the.EndOfSession m = end_of_session_at m
fixed_at the.EndOfDaySummary m = end_of_day_summary_at m
fixed_at the.OpenInterest m = open_interest_at m
fixed_at the.SpinImageAvailable m = spin_image_available_at m
fixed_at the.SpinResponse m = spin_response_at m
fixed_at the.SpinFinished m = spin_finished_at m

-- what a message of a kind says, where it is long enough: of a table's bytes alone, except that a definition says how long it is
abbrev pub kind_at : Kind → List ℕ → Result Record Breach
kind_at (the_kind.Fixed t) m = fixed_at t (take (table_length t) m)
kind_at the_kind.Definition m = definition_at m
kind_at the_kind.Unlisted m = Ok (unlisted (slice_index m 1))

-- the same, or refusal 9
abbrev pub form_at : Kind → List ℕ → Result Record Breach
form_at k m = cond (nat_lt (length m) (least k)) (Err (breach 9 0)) (kind_at k m)

-- what a message says, m being its Length bytes
abbrev pub form : Carrier → List ℕ → Result Record Breach
form carrier m = form_at (kind_of carrier (slice_index m 1)) m

-- the message in front of the bytes, as many as its Length says; refusal 8 where that is missing, below 2 or past the end
abbrev pub frame : List ℕ → Result (List ℕ) Breach
frame bytes =
    cond (nat_le 2 (slice_index bytes 0) && nat_le (slice_index bytes 0) (length bytes))
    (Ok (take (slice_index bytes 0) bytes))
    (Err (breach 8 0))

-- what the message in front of the bytes says
abbrev pub decoded : Carrier → List ℕ → Result Record Breach
decoded carrier bytes = and_then (frame bytes) (λ m. form carrier m)
