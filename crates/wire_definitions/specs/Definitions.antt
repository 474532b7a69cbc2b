-- 0xBB Futures Instrument Definition, whose length depends on what the instrument is made of. m is the whole message, of 45 bytes
-- at least. Assumes nothing.
use Rattle.std.specs.Prelude.{ℕ, zero, suc, ◌+◌, ◌*◌, ◌%◌, Bool, cond, ◌&&◌, ◌||◌, List, length, take, drop, None, Ok, Err, Option, Result, ◌==◌, nat_le, slice_index}
use Rattle.std.specs.Option.{option_or}
use Rattle.wire_fields.specs.Codes.{code_at}
use Rattle.wire_numbers.specs.Prices.{long_price}
use Rattle.wire_fields.specs.Symbols.{symbol_at, first_bad, unless_bad}
use Rattle.wire_types.specs.Codes.{listing_of}
use Rattle.wire_types.specs.Legs.{LegRecord, legs_in}
use Rattle.wire_types.specs.Numbers.{le, signed}
use Rattle.wire_types.specs.Records.{Record, Makeup, outright, spread, variance_future, definition}
use Rattle.wire_types.specs.Refusals.{Breach, breach, and_then}
use Rattle.wire_types.specs.declared.instrument.Variance.{Variance}

-- bit 0 of Futures Flags: a variance future
abbrev pub is_variance : List ℕ → Bool
is_variance m = slice_index m 22 % 2 == 1

abbrev pub leg_count : List ℕ → ℕ
leg_count m = slice_index m 38

-- the rule for legs and variance
abbrev pub keeps_leg_rule : List ℕ → Bool
keeps_leg_rule m =
    cond (is_variance m)
    (leg_count m == 0 && slice_index m 40 == 45 && nat_le 97 (length m))
    (leg_count m == 0 || nat_le (leg_count m) 4 && slice_index m 39 == 45 && nat_le (45 + 10 * leg_count m) (length m))

-- the first byte that no symbol may hold in the symbols of k legs from `at` on
unfoldable pub first_bad_leg : ℕ → List ℕ → ℕ → Option ℕ
first_bad_leg zero m at = None
first_bad_leg (suc k) m at = option_or (first_bad 6 m (at + 4)) (first_bad_leg k m (at + 10))

-- the k legs from `at` on
abbrev pub legs_at : List ℕ → ℕ → ℕ → Result (List LegRecord) Breach
legs_at m k at = unless_bad (first_bad_leg k m at) (legs_in (take (10 * k) (drop at m)))

-- the variance block from `at` on
abbrev pub variance_at : List ℕ → ℕ → Variance
variance_at m at =
    record {
      realized_variance = signed 8 (le 8 m at);
      expected_prices = le 2 m (at + 8);
      elapsed_returns = le 2 m (at + 10);
      previous_settlement = long_price m (at + 12);
      discount_factor = signed 8 (le 8 m (at + 20));
      initial_strike = long_price m (at + 28);
      previous_armvm = signed 8 (le 8 m (at + 36));
      fed_funds_rate = signed 8 (le 8 m (at + 44));
    }

-- what an instrument is made of that keeps the rule
abbrev pub parts_at : List ℕ → Result Makeup Breach
parts_at m =
    cond (is_variance m) (Ok (variance_future (variance_at m 45)))
    (cond (leg_count m == 0) (Ok outright)
    (and_then (legs_at m (leg_count m) 45) (λ legs. Ok (spread legs))))

-- what an instrument is made of; refusal 11 at Leg Count where the rule is broken
abbrev pub makeup_at : List ℕ → Result Makeup Breach
makeup_at m = cond (keeps_leg_rule m) (parts_at m) (Err (breach 11 38))

abbrev pub definition_at : List ℕ → Result Record Breach
definition_at m =
    and_then (symbol_at m 6) (λ s.
    and_then (symbol_at m 16) (λ p.
    and_then (code_at listing_of m 29) (λ l.
    and_then (makeup_at m) (λ x.
    Ok (definition (record {
      time_offset = le 4 m 2;
      symbol = s;
      unit_timestamp = le 4 m 12;
      report_symbol = p;
      flags = slice_index m 22;
      expiration = le 4 m 23;
      contract_size = le 2 m 27;
      listing = l;
      increment = long_price m 30;
      contract_date = le 4 m 41;
      structure = x;
    }))))))
