-- A reader over bytes that are lent: what stands before it, and what each step gives and leaves. Assumes nothing.
use Rattle.std.specs.Prelude.{ℕ, ◌+◌, cond, List, length, drop, Some, None, Ok, Err, Option, Result, nat_lt, slice_index}
use Rattle.std.specs.Result.{result_map_both}
use Rattle.wire_messages.specs.Forms.{decoded}
use Rattle.wire_types.specs.Numbers.{le}
use Rattle.wire_types.specs.Records.{Record}
use Rattle.wire_types.specs.Refusals.{Breach, Refusal, refusal}
use Rattle.wire_types.specs.declared.fault.Layer.{Layer}
use Rattle.wire_types.specs.declared.fault.Layer.TheVariants as the_layer
use Rattle.wire_types.specs.declared.header.Carrier.{Carrier}
use Rattle.wire_types.specs.declared.header.Header.{Header}
use Rattle.wire_reader.specs.declared.reader.Reader.{Reader}

-- the header in front of the bytes
abbrev pub header_of : List ℕ → Header
header_of b = record { length = le 2 b 0; count = slice_index b 2; unit = slice_index b 3; sequence = le 4 b 4 }

-- the header in front of the bytes, or refusal 4
abbrev pub header_at : List ℕ → Result Header Refusal
header_at b = cond (nat_lt (length b) 8) (Err (refusal 4 the_layer.Header 0)) (Ok (header_of b))

-- where a reader stands: the bytes ahead, the messages of the block, and the place of the next one
pub record Standing : Type 0 where
  pub carrier : Carrier
  pub ahead : List ℕ
  pub count : ℕ
  pub place : ℕ

abbrev pub standing : Reader → Standing
standing r = record { carrier = r.carrier; ahead = r.ahead.now; count = r.count; place = r.place }

-- at the start of a block that has not been opened
abbrev pub at_start : Carrier → List ℕ → Standing
at_start carrier b = record { carrier = carrier; ahead = b; count = 0; place = 0 }

-- behind a header
abbrev pub behind_header : Standing → Standing
behind_header s = record { carrier = s.carrier; ahead = drop 8 s.ahead; count = slice_index s.ahead 2; place = 0 }

-- behind a message
abbrev pub behind_message : Standing → Standing
behind_message s = record { carrier = s.carrier; ahead = drop (slice_index s.ahead 0) s.ahead; count = s.count; place = s.place + 1 }

-- refusals 8 and 9 are the message's, 10 and 11 a field's
abbrev pub layer_of : ℕ → ℕ → Layer
layer_of n place = cond (nat_lt n 10) (the_layer.Message place) (the_layer.Field place)

-- what the message at a place breaks
abbrev pub placed : ℕ → Breach → Refusal
placed place b = refusal b.number (layer_of b.number place) b.byte

-- a step over a header: what it gives, and where the reader stands after
abbrev pub header_step : Standing → Result Header Refusal
header_step s = header_at s.ahead

abbrev pub after_header : Standing → Standing
after_header s = cond (nat_lt (length s.ahead) 8) s (behind_header s)

-- the message at a place, in front of the bytes
abbrev pub message_at : Carrier → ℕ → List ℕ → Result Record Refusal
message_at carrier place bytes = result_map_both (λ x. x) (placed place) (decoded carrier bytes)

-- the message that stands ahead
abbrev pub message_ahead : Standing → Result Record Refusal
message_ahead s = message_at s.carrier s.place s.ahead

-- a step over a message: the next one, or none behind the last
abbrev pub message_step : Standing → Result (Option Record) Refusal
message_step s = cond (nat_lt s.place s.count) (result_map_both Some (λ e. e) (message_ahead s)) (Ok None)

abbrev pub moved : {X E : Type 0} → Result (Option X) E → Standing → Standing → Standing
moved (Ok (Some x)) s t = t
moved (Ok None) s t = s
moved (Err e) s t = s

-- only a message that was read moves the reader
abbrev pub after_message : Standing → Standing
after_message s = moved (message_step s) s (behind_message s)
