-- Where each field of a message stands: the tables of the clock, the session and spins, m being the bytes of the table.
-- None has a symbol or a code to test. Assumes nothing.
use Rattle.std.specs.Prelude.{ℕ, List, Ok, Result, slice_index}
use Rattle.wire_types.specs.Numbers.{le}
use Rattle.wire_types.specs.Records.{Record, time, time_reference, unit_clear, end_of_session, spin_image_available, spin_response, spin_finished}
use Rattle.wire_types.specs.Refusals.{Breach}

-- 0x20 Time
abbrev pub time_at : List ℕ → Result Record Breach
time_at m = Ok (time (record { seconds = le 4 m 2; epoch = le 4 m 6 }))

-- 0xB1 Time Reference
abbrev pub time_reference_at : List ℕ → Result Record Breach
time_reference_at m =
    Ok (time_reference (record {
      midnight = le 4 m 2;
      seconds = le 4 m 6;
      time_offset = le 4 m 10;
      trade_date = le 4 m 14;
    }))

-- 0x97 Unit Clear
abbrev pub unit_clear_at : List ℕ → Result Record Breach
unit_clear_at m = Ok (unit_clear (le 4 m 2))

-- 0x2D End of Session
abbrev pub end_of_session_at : List ℕ → Result Record Breach
end_of_session_at m = Ok (end_of_session (le 4 m 2))

-- 0x80 Spin Image Available
abbrev pub spin_image_available_at : List ℕ → Result Record Breach
spin_image_available_at m = Ok (spin_image_available (le 4 m 2))

-- 0x82 Spin Response
abbrev pub spin_response_at : List ℕ → Result Record Breach
spin_response_at m = Ok (spin_response (record { sequence = le 4 m 2; order_count = le 4 m 6; status = slice_index m 10 }))

-- 0x83 Spin Finished
abbrev pub spin_finished_at : List ℕ → Result Record Breach
spin_finished_at m = Ok (spin_finished (le 4 m 2))
