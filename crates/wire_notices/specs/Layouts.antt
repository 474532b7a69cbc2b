-- Where each field of a message stands: the tables that tell of an instrument apart from its quotes, m being the bytes of the table.
-- Symbols and codes are tested from the lowest byte up, so the first refusal 10 tells the lowest byte. Assumes nothing.
use Rattle.std.specs.Prelude.{ℕ, List, Ok, Result, slice_index}
use Rattle.wire_fields.specs.Codes.{code_at}
use Rattle.wire_numbers.specs.Prices.{long_price}
use Rattle.wire_fields.specs.Symbols.{symbol_at}
use Rattle.wire_types.specs.Codes.{status_of, issue_of}
use Rattle.wire_types.specs.Numbers.{le}
use Rattle.wire_types.specs.Records.{Record, trading_status, settlement, price_limits, end_of_day_summary, open_interest}
use Rattle.wire_types.specs.Refusals.{Breach, and_then}

-- 0x31 Trading Status
abbrev pub trading_status_at : List ℕ → Result Record Breach
trading_status_at m =
    and_then (symbol_at m 6) (λ s.
    and_then (code_at status_of m 14) (λ t.
    Ok (trading_status (record { time_offset = le 4 m 2; symbol = s; status = t }))))

-- 0xB9 Settlement
abbrev pub settlement_at : List ℕ → Result Record Breach
settlement_at m =
    and_then (symbol_at m 6) (λ s.
    and_then (code_at issue_of m 24) (λ i.
    Ok (settlement (record {
      time_offset = le 4 m 2;
      symbol = s;
      trade_date = le 4 m 12;
      price = long_price m 16;
      issue = i;
    }))))

-- 0xBE Price Limits
abbrev pub price_limits_at : List ℕ → Result Record Breach
price_limits_at m =
    and_then (symbol_at m 6) (λ s.
    Ok (price_limits (record { time_offset = le 4 m 2; symbol = s; upper = long_price m 12; lower = long_price m 20 })))

-- 0xBA End of Day Summary
abbrev pub end_of_day_summary_at : List ℕ → Result Record Breach
end_of_day_summary_at m =
    and_then (symbol_at m 6) (λ s.
    Ok (end_of_day_summary (record {
      time_offset = le 4 m 2;
      symbol = s;
      trade_date = le 4 m 12;
      open_interest = le 4 m 16;
      high = long_price m 20;
      low = long_price m 28;
      opening = long_price m 36;
      close = long_price m 44;
      volume = le 4 m 52;
      block_volume = le 4 m 56;
      ecrp_volume = le 4 m 60;
      flags = slice_index m 64;
    })))

-- 0xD3 Open Interest
abbrev pub open_interest_at : List ℕ → Result Record Breach
open_interest_at m =
    and_then (symbol_at m 6) (λ s.
    Ok (open_interest (record { time_offset = le 4 m 2; symbol = s; trade_date = le 4 m 12; open_interest = le 4 m 16 })))
