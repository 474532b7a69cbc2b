-- The refusals by their numbers, and what each tells. Assumes nothing.
use Rattle.std.specs.Prelude.{ℕ, Ok, Err, Result}
use Rattle.std.specs.Result.{result_map_both}
use Rattle.wire_types.specs.declared.fault.Fault.{Fault}
use Rattle.wire_types.specs.declared.fault.Flaw.{Flaw}
use Rattle.wire_types.specs.declared.fault.Layer.{Layer}
use Rattle.wire_types.specs.declared.fault.Why.{Why}
use Rattle.wire_types.specs.declared.fault.Why.TheVariants.{NoHeader, BlockLength, OtherUnit, SequenceRange, MessageLength, BelowLeast, NotListed, LegRule, LeftOver}

-- the number of each refusal
abbrev pub number_of : Why → ℕ
number_of NoHeader = 4
number_of BlockLength = 5
number_of OtherUnit = 6
number_of SequenceRange = 7
number_of MessageLength = 8
number_of BelowLeast = 9
number_of NotListed = 10
number_of LegRule = 11
number_of LeftOver = 12

-- what the bytes of one message break: the refusal's number, and the byte of the message
pub record Breach : Type 0 where
  pub number : ℕ
  pub byte : ℕ

abbrev pub breach : ℕ → ℕ → Breach
breach n b = record { number = n; byte = b }

-- what a refused block is told: the number, the layer with the message's place, the byte
pub record Refusal : Type 0 where
  pub number : ℕ
  pub layer : Layer
  pub byte : ℕ

abbrev pub refusal : ℕ → Layer → ℕ → Refusal
refusal n l b = record { number = n; layer = l; byte = b }

abbrev pub breach_of : Flaw → Breach
breach_of f = breach (number_of f.why) f.byte

abbrev pub refusal_of : Fault → Refusal
refusal_of f = refusal (number_of f.why) f.layer f.byte

-- the next step on what a step gave, or the first refusal
abbrev pub and_then : {X Y E : Type 0} → Result X E → (X → Result Y E) → Result Y E
and_then (Ok x) f = f x
and_then (Err e) f = Err e

-- the answer of a reader of one message, by what a value of it means
abbrev pub reads : {X Y : Type 0} → (X → Y) → Result X Flaw → Result Y Breach
reads f r = result_map_both f breach_of r

-- the answer of a reader of blocks
abbrev pub answers : {X Y : Type 0} → (X → Y) → Result X Fault → Result Y Refusal
answers f r = result_map_both f refusal_of r
