-- What a message means: its fields as numbers, codes and lists of bytes, with no reference into a block. Assumes nothing.
use Rattle.std.specs.Prelude.{ℕ, List, map, ℤ}
use Rattle.wire_types.specs.Legs.{LegRecord, leg_of}
use Rattle.wire_types.specs.declared.code.Condition.{Condition}
use Rattle.wire_types.specs.declared.code.Issue.{Issue}
use Rattle.wire_types.specs.declared.code.Listing.{Listing}
use Rattle.wire_types.specs.declared.code.Side.{Side}
use Rattle.wire_types.specs.declared.code.Status.{Status}
use Rattle.wire_types.specs.declared.instrument.Definition.{Definition}
use Rattle.wire_types.specs.declared.instrument.Leg.{Leg}
use Rattle.wire_types.specs.declared.instrument.Legs.{Legs}
use Rattle.wire_types.specs.declared.instrument.Structure.{Structure}
use Rattle.wire_types.specs.declared.instrument.Variance.{Variance}
use Rattle.wire_types.specs.declared.legs.LegIter.{LegIter}
use Rattle.wire_types.specs.declared.message.EndOfDaySummary.{EndOfDaySummary}
use Rattle.wire_types.specs.declared.message.Message.{Message}
use Rattle.wire_types.specs.declared.message.OpenInterest.{OpenInterest}
use Rattle.wire_types.specs.declared.message.PriceLimits.{PriceLimits}
use Rattle.wire_types.specs.declared.message.Settlement.{Settlement}
use Rattle.wire_types.specs.declared.message.SpinResponse.{SpinResponse}
use Rattle.wire_types.specs.declared.message.Time.{Time}
use Rattle.wire_types.specs.declared.message.TimeReference.{TimeReference}
use Rattle.wire_types.specs.declared.message.TradingStatus.{TradingStatus}
use Rattle.wire_types.specs.declared.quote.LastTrade.{LastTrade}
use Rattle.wire_types.specs.declared.quote.Quote.{Quote}
use Rattle.wire_types.specs.declared.quote.SingleSideUpdate.{SingleSideUpdate}
use Rattle.wire_types.specs.declared.quote.Snapshot.{Snapshot}
use Rattle.wire_types.specs.declared.quote.TopTrade.{TopTrade}
use Rattle.wire_types.specs.declared.quote.TwoSideUpdate.{TwoSideUpdate}
use Rattle.wire_types.specs.declared.instrument.Structure.TheVariants as the_structure
use Rattle.wire_types.specs.declared.message.Message.TheVariants as the_message

-- what an instrument is made of
pub data Makeup : Type 0 where
  outright : Makeup
  spread : List LegRecord → Makeup
  variance_future : Variance → Makeup

abbrev pub leg_meaning : Leg → LegRecord
leg_meaning x = record { ratio = x.ratio; symbol = x.symbol }

abbrev pub legs_meaning : Legs → List LegRecord
legs_meaning x = map leg_of x.rows.now

-- the legs that are still to come
abbrev pub legs_left : LegIter → List LegRecord
legs_left x = legs_meaning x.left

abbrev pub makeup : Structure → Makeup
makeup the_structure.Outright = outright
makeup (the_structure.Spread legs) = spread (legs_meaning legs)
makeup (the_structure.Variance v) = variance_future v

-- what a Trading Status says
pub record TradingStatusRecord : Type 0 where
  pub time_offset : ℕ
  pub symbol : List ℕ
  pub status : Status

-- what a Market Snapshot says, short or long
pub record SnapshotRecord : Type 0 where
  pub time_offset : ℕ
  pub symbol : List ℕ
  pub unit_timestamp : ℕ
  pub bid : Quote
  pub ask : Quote
  pub last : LastTrade
  pub volume : ℕ
  pub status : Status

-- what a Single Side Update says, short or long
pub record SingleSideRecord : Type 0 where
  pub time_offset : ℕ
  pub symbol : List ℕ
  pub side : Side
  pub quote : Quote

-- what a Two Side Update says, short or long
pub record TwoSideRecord : Type 0 where
  pub time_offset : ℕ
  pub symbol : List ℕ
  pub bid : Quote
  pub ask : Quote

-- what a TOP Trade says
pub record TradeRecord : Type 0 where
  pub time_offset : ℕ
  pub symbol : List ℕ
  pub quantity : ℕ
  pub price : ℤ
  pub execution_id : ℕ
  pub volume : ℕ
  pub condition : Condition

-- what a Settlement says
pub record SettlementRecord : Type 0 where
  pub time_offset : ℕ
  pub symbol : List ℕ
  pub trade_date : ℕ
  pub price : ℤ
  pub issue : Issue

-- what a Futures Instrument Definition says
pub record DefinitionRecord : Type 0 where
  pub time_offset : ℕ
  pub symbol : List ℕ
  pub unit_timestamp : ℕ
  pub report_symbol : List ℕ
  pub flags : ℕ
  pub expiration : ℕ
  pub contract_size : ℕ
  pub listing : Listing
  pub increment : ℤ
  pub contract_date : ℕ
  pub structure : Makeup

-- what Price Limits say
pub record LimitsRecord : Type 0 where
  pub time_offset : ℕ
  pub symbol : List ℕ
  pub upper : ℤ
  pub lower : ℤ

-- what an End of Day Summary says
pub record SummaryRecord : Type 0 where
  pub time_offset : ℕ
  pub symbol : List ℕ
  pub trade_date : ℕ
  pub open_interest : ℕ
  pub high : ℤ
  pub low : ℤ
  pub opening : ℤ
  pub close : ℤ
  pub volume : ℕ
  pub block_volume : ℕ
  pub ecrp_volume : ℕ
  pub flags : ℕ

-- what an Open Interest says
pub record InterestRecord : Type 0 where
  pub time_offset : ℕ
  pub symbol : List ℕ
  pub trade_date : ℕ
  pub open_interest : ℕ

-- what a message means
pub data Record : Type 0 where
  time : Time → Record
  time_reference : TimeReference → Record
  unit_clear : (time_offset : ℕ) → Record
  trading_status : TradingStatusRecord → Record
  snapshot : SnapshotRecord → Record
  single_side : SingleSideRecord → Record
  two_side : TwoSideRecord → Record
  top_trade : TradeRecord → Record
  settlement : SettlementRecord → Record
  definition : DefinitionRecord → Record
  price_limits : LimitsRecord → Record
  end_of_session : (time_offset : ℕ) → Record
  end_of_day_summary : SummaryRecord → Record
  open_interest : InterestRecord → Record
  spin_image_available : (sequence : ℕ) → Record
  spin_response : SpinResponse → Record
  spin_finished : (sequence : ℕ) → Record
  unlisted : (type : ℕ) → Record

abbrev pub status_meaning : TradingStatus → TradingStatusRecord
status_meaning x =
    record {
      time_offset = x.time_offset;
      symbol = x.symbol.now;
      status = x.status;
    }

abbrev pub snapshot_meaning : Snapshot → SnapshotRecord
snapshot_meaning x =
    record {
      time_offset = x.time_offset;
      symbol = x.symbol.now;
      unit_timestamp = x.unit_timestamp;
      bid = x.bid;
      ask = x.ask;
      last = x.last;
      volume = x.volume;
      status = x.status;
    }

abbrev pub single_side_meaning : SingleSideUpdate → SingleSideRecord
single_side_meaning x =
    record {
      time_offset = x.time_offset;
      symbol = x.symbol.now;
      side = x.side;
      quote = x.quote;
    }

abbrev pub two_side_meaning : TwoSideUpdate → TwoSideRecord
two_side_meaning x =
    record {
      time_offset = x.time_offset;
      symbol = x.symbol.now;
      bid = x.bid;
      ask = x.ask;
    }

abbrev pub trade_meaning : TopTrade → TradeRecord
trade_meaning x =
    record {
      time_offset = x.time_offset;
      symbol = x.symbol.now;
      quantity = x.quantity;
      price = x.price;
      execution_id = x.execution_id;
      volume = x.volume;
      condition = x.condition;
    }

abbrev pub settlement_meaning : Settlement → SettlementRecord
settlement_meaning x =
    record {
      time_offset = x.time_offset;
      symbol = x.symbol.now;
      trade_date = x.trade_date;
      price = x.price;
      issue = x.issue;
    }

abbrev pub definition_meaning : Definition → DefinitionRecord
definition_meaning x =
    record {
      time_offset = x.time_offset;
      symbol = x.symbol.now;
      unit_timestamp = x.unit_timestamp;
      report_symbol = x.report_symbol.now;
      flags = x.flags;
      expiration = x.expiration;
      contract_size = x.contract_size;
      listing = x.listing;
      increment = x.increment;
      contract_date = x.contract_date;
      structure = makeup x.structure;
    }

abbrev pub limits_meaning : PriceLimits → LimitsRecord
limits_meaning x =
    record {
      time_offset = x.time_offset;
      symbol = x.symbol.now;
      upper = x.upper;
      lower = x.lower;
    }

abbrev pub summary_meaning : EndOfDaySummary → SummaryRecord
summary_meaning x =
    record {
      time_offset = x.time_offset;
      symbol = x.symbol.now;
      trade_date = x.trade_date;
      open_interest = x.open_interest;
      high = x.high;
      low = x.low;
      opening = x.«open»;
      close = x.close;
      volume = x.volume;
      block_volume = x.block_volume;
      ecrp_volume = x.ecrp_volume;
      flags = x.flags;
    }

abbrev pub interest_meaning : OpenInterest → InterestRecord
interest_meaning x =
    record {
      time_offset = x.time_offset;
      symbol = x.symbol.now;
      trade_date = x.trade_date;
      open_interest = x.open_interest;
    }

-- the meaning of a decoded message
abbrev pub meaning : Message → Record
meaning (the_message.Time x) = time x
meaning (the_message.TimeReference x) = time_reference x
meaning (the_message.UnitClear t) = unit_clear t
meaning (the_message.TradingStatus x) = trading_status (status_meaning x)
meaning (the_message.Snapshot x) = snapshot (snapshot_meaning x)
meaning (the_message.SingleSideUpdate x) = single_side (single_side_meaning x)
meaning (the_message.TwoSideUpdate x) = two_side (two_side_meaning x)
meaning (the_message.TopTrade x) = top_trade (trade_meaning x)
meaning (the_message.Settlement x) = settlement (settlement_meaning x)
meaning (the_message.Definition x) = definition (definition_meaning x)
meaning (the_message.PriceLimits x) = price_limits (limits_meaning x)
meaning (the_message.EndOfSession t) = end_of_session t
meaning (the_message.EndOfDaySummary x) = end_of_day_summary (summary_meaning x)
meaning (the_message.OpenInterest x) = open_interest (interest_meaning x)
meaning (the_message.SpinImageAvailable n) = spin_image_available n
meaning (the_message.SpinResponse x) = spin_response x
meaning (the_message.SpinFinished n) = spin_finished n
meaning (the_message.Unlisted b) = unlisted b
