-- Where each field of a message stands: the tables of quotes and trades, m being the bytes of the table.
-- Symbols and codes are tested from the lowest byte up, so the first refusal 10 tells the lowest byte. Assumes nothing.
use Rattle.std.specs.Prelude.{ℕ, ◌+◌, ◌*◌, List, Ok, Result}
use Rattle.wire_fields.specs.Codes.{code_at}
use Rattle.wire_numbers.specs.Prices.{long_price, long_quote, short_quote}
use Rattle.wire_fields.specs.Symbols.{symbol_at}
use Rattle.wire_types.specs.Codes.{side_of, status_of, condition_of}
use Rattle.wire_types.specs.Numbers.{le}
use Rattle.wire_types.specs.Records.{Record, snapshot, single_side, two_side, top_trade}
use Rattle.wire_types.specs.Refusals.{Breach, and_then}
use Rattle.wire_types.specs.declared.quote.Quote.{Quote}

-- Market Snapshot, a quote being told by n bytes: bid, ask and last trade, all three of a price and a quantity
abbrev pub snapshot_at : ℕ → (List ℕ → ℕ → Quote) → List ℕ → Result Record Breach
snapshot_at n quote m =
    and_then (symbol_at m 6) (λ s.
    and_then (code_at condition_of m (16 + 3 * n)) (λ c.
    and_then (code_at status_of m (16 + 3 * n + 5)) (λ t.
    Ok (snapshot (record {
      time_offset = le 4 m 2;
      symbol = s;
      unit_timestamp = le 4 m 12;
      bid = quote m 16;
      ask = quote m (16 + n);
      last = record { price = (quote m (16 + 2 * n)).price; size = (quote m (16 + 2 * n)).quantity; condition = c };
      volume = le 4 m (16 + 3 * n + 1);
      status = t;
    })))))

-- 0xB2 Market Snapshot (short)
abbrev pub snapshot_short_at : List ℕ → Result Record Breach
snapshot_short_at = snapshot_at 4 short_quote

-- 0xB3 Market Snapshot (long)
abbrev pub snapshot_long_at : List ℕ → Result Record Breach
snapshot_long_at = snapshot_at 12 long_quote

-- Single Side Update
abbrev pub single_side_at : (List ℕ → ℕ → Quote) → List ℕ → Result Record Breach
single_side_at quote m =
    and_then (symbol_at m 6) (λ s.
    and_then (code_at side_of m 12) (λ d.
    Ok (single_side (record { time_offset = le 4 m 2; symbol = s; side = d; quote = quote m 13 }))))

-- 0xB4 Single Side Update (short)
abbrev pub single_side_short_at : List ℕ → Result Record Breach
single_side_short_at = single_side_at short_quote

-- 0xB5 Single Side Update (long)
abbrev pub single_side_long_at : List ℕ → Result Record Breach
single_side_long_at = single_side_at long_quote

-- Two Side Update, a quote being told by n bytes
abbrev pub two_side_at : ℕ → (List ℕ → ℕ → Quote) → List ℕ → Result Record Breach
two_side_at n quote m =
    and_then (symbol_at m 6) (λ s.
    Ok (two_side (record { time_offset = le 4 m 2; symbol = s; bid = quote m 12; ask = quote m (12 + n) })))

-- 0xB6 Two Side Update (short)
abbrev pub two_side_short_at : List ℕ → Result Record Breach
two_side_short_at = two_side_at 4 short_quote

-- 0xB7 Two Side Update (long)
abbrev pub two_side_long_at : List ℕ → Result Record Breach
two_side_long_at = two_side_at 12 long_quote

-- 0xB8 TOP Trade
abbrev pub top_trade_at : List ℕ → Result Record Breach
top_trade_at m =
    and_then (symbol_at m 6) (λ s.
    and_then (code_at condition_of m 36) (λ c.
    Ok (top_trade (record {
      time_offset = le 4 m 2;
      symbol = s;
      quantity = le 4 m 12;
      price = long_price m 16;
      execution_id = le 8 m 24;
      volume = le 4 m 32;
      condition = c;
    }))))
