-- The bytes behind a table: a message may be longer than what its type says, and what stands there never changes its record.
-- Assumes nothing.
use Rattle.std.specs.Prelude.{◌≡◌, ℕ, ◌+◌, ◌*◌, ◌≤◌, cond, List, ◌++◌, length, take, Ok, slice_set}
use Rattle.wire_definitions.specs.Definitions.{is_variance, leg_count}
use Rattle.wire_messages.specs.Forms.{decoded}
use Rattle.wire_messages.specs.Kinds.{table_length}
use Rattle.wire_messages.specs.Rules.{Good, front, front_kind}
use Rattle.wire_types.specs.Records.{Record}
use Rattle.wire_types.specs.declared.header.Carrier.{Carrier}
use Rattle.wire_types.specs.declared.kind.Kind.{Kind}
use Rattle.wire_types.specs.declared.kind.Kind.TheVariants as the_kind

-- how many bytes of a message its type gives a meaning
abbrev pub span : Kind → List ℕ → ℕ
span (the_kind.Fixed t) m = table_length t
span the_kind.Definition m = cond (is_variance m) 97 (45 + 10 * leg_count m)
span the_kind.Unlisted m = 2

-- the message in front of the bytes, with another tail behind its span and the Length that goes with it
abbrev pub with_tail : ℕ → List ℕ → ℕ → List ℕ → List ℕ
with_tail s bytes n tail = slice_set (take s bytes ++ tail) 0 n

-- the record x of the message in front does not hang on its tail: any other of any length gives the same
abbrev pub TailIgnored : Carrier → List ℕ → Record → Type 0
TailIgnored carrier bytes x =
    (n : ℕ) (tail : List ℕ) → span (front_kind carrier bytes) (front bytes) ≤ n → n ≤ span (front_kind carrier bytes) (front bytes) + length tail → decoded carrier (with_tail (span (front_kind carrier bytes) (front bytes)) bytes n tail) ≡ Ok x

-- what holds of bytes whose front message was decoded to x
pub record Taken (carrier : Carrier) (bytes : List ℕ) (x : Record) : Type 0 where
  pub good : Good carrier bytes
  pub tail : TailIgnored carrier bytes x
