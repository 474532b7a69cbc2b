-- What it means that a block is accepted or refused, said of its bytes alone. Assumes nothing.
use Rattle.std.specs.Prelude.{◌≡◌, ℕ, ◌+◌, ◌<◌, ◌≤◌, true, false, List, [], ◌∷◌, ◌++◌, length, take, ◌≢◌, slice_index}
use Rattle.wire_messages.specs.Kinds.{kind_of}
use Rattle.wire_messages.specs.Rules.{Sound, Refused}
use Rattle.wire_types.specs.Refusals.{Breach, Refusal, refusal}
use Rattle.wire_types.specs.declared.fault.Layer.TheVariants as the_layer
use Rattle.wire_types.specs.declared.header.Carrier.{Carrier}
use Rattle.wire_types.specs.declared.header.Header.{Header}
use Rattle.wire.specs.Blocks.{for_unit, in_range}
use Rattle.wire_reader.specs.Reading.{header_of, placed}

-- messages laid end to end
abbrev pub end_to_end : List (List ℕ) → List ℕ
end_to_end [] = []
end_to_end (m ∷ ms) = m ++ end_to_end ms

-- a message that is just as long as its Length says and keeps every rule of form
abbrev pub Whole : Carrier → List ℕ → Type 0
Whole carrier m = (length m ≡ slice_index m 0) × (2 ≤ length m) × Sound (kind_of carrier (slice_index m 1)) m

abbrev pub AllWhole : Carrier → List (List ℕ) → Type 0
AllWhole carrier [] = Unit {0}
AllWhole carrier (m ∷ ms) = Whole carrier m × AllWhole carrier ms

-- the header of a block keeps every rule
pub record Opened (carrier : Carrier) (unit : ℕ) (block : List ℕ) : Type 0 where
  pub eight : 8 ≤ length block
  pub whole : (header_of block).length ≡ length block
  pub ours : for_unit unit (header_of block) ≡ true
  pub range : in_range carrier (header_of block) ≡ true

-- a block that begins with its header and these messages
pub record Begins (carrier : Carrier) (block : List ℕ) (messages : List (List ℕ)) (rest : List ℕ) : Type 0 where
  pub laid : block ≡ take 8 block ++ (end_to_end messages ++ rest)
  pub whole : AllWhole carrier messages

-- an accepted block is its header h and its messages laid end to end, as many as Hdr Count says, each of them whole
pub record Accepted (carrier : Carrier) (unit : ℕ) (block : List ℕ) (h : Header) : Type 0 where
  pub header : h ≡ header_of block
  pub «open» : Opened carrier unit block
  pub messages : List (List ℕ)
  pub counted : length messages ≡ h.count
  pub begins : Begins carrier block messages []

-- a refused block is told its first fault f: the header's in their order; then that of the first message that has one, all before it
-- being whole; then what is left behind the last
pub data FirstFault (carrier : Carrier) (unit : ℕ) (block : List ℕ) (f : Refusal) : Type 0 where
  no_header : length block < 8 → f ≡ refusal 4 the_layer.Header 0 → FirstFault carrier unit block f
  other_length : 8 ≤ length block → ((header_of block).length ≢ length block) → f ≡ refusal 5 the_layer.Header 0 → FirstFault carrier unit block f
  other_unit : 8 ≤ length block → (header_of block).length ≡ length block → for_unit unit (header_of block) ≡ false → f ≡ refusal 6 the_layer.Header 3 → FirstFault carrier unit block f
  out_of_range : 8 ≤ length block → (header_of block).length ≡ length block → for_unit unit (header_of block) ≡ true → in_range carrier (header_of block) ≡ false → f ≡ refusal 7 the_layer.Header 4 → FirstFault carrier unit block f
  in_message : Opened carrier unit block → (before : List (List ℕ)) (rest : List ℕ) (e : Breach) → Begins carrier block before rest → length before < (header_of block).count → Refused carrier rest e → f ≡ placed (length before) e → FirstFault carrier unit block f
  left_over : Opened carrier unit block → (messages : List (List ℕ)) (rest : List ℕ) → Begins carrier block messages rest → length messages ≡ (header_of block).count → 0 < length rest → f ≡ refusal 12 the_layer.Header (8 + length (end_to_end messages)) → FirstFault carrier unit block f
