-- A whole block: accepted with its header, or the first refusal that fits. Assumes nothing.
use Rattle.std.specs.Prelude.{ℕ, zero, suc, ◌+◌, ◌-◌, Bool, cond, ◌&&◌, ◌||◌, List, length, drop, Ok, Err, Option, Result, ◌==◌, nat_le, slice_index}
use Rattle.std.specs.Option.{unwrap_or}
use Rattle.std.specs.Result.{result_map_both}
use Rattle.wire_types.specs.Refusals.{Refusal, refusal, and_then}
use Rattle.wire_types.specs.declared.fault.Layer.TheVariants as the_layer
use Rattle.wire_types.specs.declared.header.Carrier.{Carrier}
use Rattle.wire_types.specs.declared.header.Carrier.TheVariants.{Datagram, Spin}
use Rattle.wire_types.specs.declared.header.Header.{Header}
use Rattle.wire_reader.specs.Reading.{Standing, header_at, message_at}

-- Hdr Unit is the unit asked for, or Hdr Unit and Hdr Sequence are 0
abbrev pub for_unit : ℕ → Header → Bool
for_unit unit h = h.unit == unit || h.unit == 0 && h.sequence == 0

-- Hdr Sequence is in range: in a datagram 0, or such that no message's number passes 4,294,967,295; in a spin block 0
abbrev pub in_range : Carrier → Header → Bool
in_range Datagram h = h.sequence == 0 || nat_le (h.sequence + h.count) 4294967296
in_range Spin h = h.sequence == 0

-- what a header breaks in a block of so many bytes
abbrev pub header_rules : Carrier → ℕ → ℕ → Header → Result Header Refusal
header_rules carrier unit bytes h =
    cond (h.length == bytes)
    (cond (for_unit unit h)
    (cond (in_range carrier h) (Ok h)
    (Err (refusal 7 the_layer.Header 4)))
    (Err (refusal 6 the_layer.Header 3)))
    (Err (refusal 5 the_layer.Header 0))

-- what stands behind k messages, the first of them at a place; or the first refusal of one of them
unfoldable pub behind_messages : Carrier → ℕ → ℕ → List ℕ → Result (List ℕ) Refusal
behind_messages carrier zero place bytes = Ok bytes
behind_messages carrier (suc k) place bytes =
    and_then (message_at carrier place bytes) (λ _. behind_messages carrier k (place + 1) (drop (slice_index bytes 0) bytes))

-- how many bytes a reader leaves behind the messages of its block
abbrev pub left_behind : Standing → Result ℕ Refusal
left_behind s = result_map_both length (λ e. e) (behind_messages s.carrier (s.count - s.place) s.place s.ahead)

-- refusal 12, unless nothing is left of a block of so many bytes
abbrev pub nothing_left : ℕ → Header → ℕ → Result Header Refusal
nothing_left bytes h left = cond (left == 0) (Ok h) (Err (refusal 12 the_layer.Header (bytes - left)))

-- a block that a unit is handed
abbrev pub checked : Carrier → ℕ → List ℕ → Result Header Refusal
checked carrier unit b =
    and_then (header_at b) (λ h.
    and_then (header_rules carrier unit (length b) h) (λ _.
    and_then (result_map_both length (λ e. e) (behind_messages carrier h.count 0 (drop 8 b))) (λ left.
    nothing_left (length b) h left)))

-- a block that is checked against a unit, or else against the one that its own header names
abbrev pub checked_for : Carrier → Option ℕ → List ℕ → Result Header Refusal
checked_for carrier unit b = checked carrier (unwrap_or unit (slice_index b 3)) b
