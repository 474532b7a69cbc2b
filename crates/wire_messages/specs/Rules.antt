-- The rules of form, said of a message's bytes without regard to the order in which a reader meets them: which bytes are tested,
-- which byte is the lowest that fails, and which rule is broken first. Assumes nothing.
use Rattle.std.specs.Prelude.{◌≡◌, ℕ, zero, suc, ◌+◌, ◌<◌, ◌≤◌, Bool, true, false, ◌⊎◌, List, [], ◌∷◌, length, take, is_some, slice_index}
use Rattle.wire_definitions.specs.Definitions.{keeps_leg_rule, leg_count}
use Rattle.wire_fields.specs.Symbols.{printable}
use Rattle.wire_messages.specs.Kinds.{kind_of, least}
use Rattle.wire_types.specs.Codes.{side_of, status_of, condition_of, issue_of, listing_of}
use Rattle.wire_types.specs.Refusals.{Breach, breach}
use Rattle.wire_types.specs.declared.header.Carrier.{Carrier}
use Rattle.wire_types.specs.declared.kind.FixedKind.{FixedKind}
use Rattle.wire_types.specs.declared.kind.FixedKind.TheVariants as the
use Rattle.wire_types.specs.declared.kind.Kind.{Kind}
use Rattle.wire_types.specs.declared.kind.Kind.TheVariants as the_kind

-- what is tested of a message: a symbol from a byte on, or a code at a byte
pub data Test : Type 0 where
  symbol_from : ℕ → Test
  code_among : ℕ → (ℕ → Bool) → Test

abbrev pub a_side : ℕ → Bool
a_side b = is_some (side_of b)

abbrev pub a_status : ℕ → Bool
a_status b = is_some (status_of b)

abbrev pub a_condition : ℕ → Bool
a_condition b = is_some (condition_of b)

abbrev pub an_issue : ℕ → Bool
an_issue b = is_some (issue_of b)

abbrev pub a_listing : ℕ → Bool
a_listing b = is_some (listing_of b)

-- the tests of each type of one length
abbrev pub fixed_tests : FixedKind → List Test
fixed_tests the.Time = []
fixed_tests the.TimeReference = []
fixed_tests the.UnitClear = []
fixed_tests the.TradingStatus = symbol_from 6 ∷ code_among 14 a_status ∷ []
fixed_tests the.SnapshotShort = symbol_from 6 ∷ code_among 28 a_condition ∷ code_among 33 a_status ∷ []
fixed_tests the.SnapshotLong = symbol_from 6 ∷ code_among 52 a_condition ∷ code_among 57 a_status ∷ []
fixed_tests the.SingleSideShort = symbol_from 6 ∷ code_among 12 a_side ∷ []
fixed_tests the.SingleSideLong = symbol_from 6 ∷ code_among 12 a_side ∷ []
fixed_tests the.TwoSideShort = symbol_from 6 ∷ []
fixed_tests the.TwoSideLong = symbol_from 6 ∷ []
fixed_tests the.TopTrade = symbol_from 6 ∷ code_among 36 a_condition ∷ []
fixed_tests the.Settlement = symbol_from 6 ∷ code_among 24 an_issue ∷ []
fixed_tests the.PriceLimits = symbol_from 6 ∷ []
fixed_tests the.EndOfSession = []
fixed_tests the.EndOfDaySummary = symbol_from 6 ∷ []
fixed_tests the.OpenInterest = symbol_from 6 ∷ []
fixed_tests the.SpinImageAvailable = []
fixed_tests the.SpinResponse = []
fixed_tests the.SpinFinished = []

-- the tests of every kind
abbrev pub tests : Kind → List Test
tests (the_kind.Fixed t) = fixed_tests t
tests the_kind.Definition = symbol_from 6 ∷ symbol_from 16 ∷ code_among 29 a_listing ∷ []
tests the_kind.Unlisted = []

-- the symbols of k legs from a byte on
abbrev pub leg_symbols : ℕ → ℕ → List Test
leg_symbols zero at = []
leg_symbols (suc k) at = symbol_from (at + 4) ∷ leg_symbols k (at + 10)

-- the tests that are made only once the rule for legs and variance is kept
abbrev pub leg_tests : Kind → List ℕ → List Test
leg_tests (the_kind.Fixed t) m = []
leg_tests the_kind.Definition m = leg_symbols (leg_count m) 45
leg_tests the_kind.Unlisted m = []

-- the rule for legs and variance binds definitions
abbrev pub keeps_rule : Kind → List ℕ → Bool
keeps_rule (the_kind.Fixed t) m = true
keeps_rule the_kind.Definition m = keeps_leg_rule m
keeps_rule the_kind.Unlisted m = true

-- byte b of m fails a test
abbrev pub Fails : Test → List ℕ → ℕ → Type 0
Fails (symbol_from at) m b = (at ≤ b) × (b < at + 6) × (printable (slice_index m b) ≡ false)
Fails (code_among at listed) m b = (b ≡ at) × (listed (slice_index m at) ≡ false)

-- byte b of m fails one of the tests
abbrev pub Outside : List Test → List ℕ → ℕ → Type 0
Outside [] m b = ⊥
Outside (t ∷ ts) m b = Fails t m b ⊎ Outside ts m b

-- no byte of m fails any of the tests
abbrev pub Within : List Test → List ℕ → Type 0
Within ts m = (b : ℕ) → Outside ts m b → ⊥

-- b is the lowest byte of m that fails one of the tests
abbrev pub Lowest : List Test → List ℕ → ℕ → Type 0
Lowest ts m b = Outside ts m b × ((c : ℕ) → c < b → Outside ts m c → ⊥)

-- a message of a kind keeps every rule of form
pub record Sound (k : Kind) (m : List ℕ) : Type 0 where
  pub long : least k ≤ length m
  pub within : Within (tests k) m
  pub rule : keeps_rule k m ≡ true
  pub legs : Within (leg_tests k m) m

-- the first rule that a message of a kind breaks: no rule with a lower number is broken, save that leg symbols are looked at
-- only once the rule for legs and variance is kept
pub data Breaks (k : Kind) (m : List ℕ) (e : Breach) : Type 0 where
  too_short : length m < least k → e ≡ breach 9 0 → Breaks k m e
  not_listed : (b : ℕ) → least k ≤ length m → Lowest (tests k) m b → e ≡ breach 10 b → Breaks k m e
  rule_broken : least k ≤ length m → Within (tests k) m → keeps_rule k m ≡ false → e ≡ breach 11 38 → Breaks k m e
  leg_not_listed : (b : ℕ) → least k ≤ length m → Within (tests k) m → keeps_rule k m ≡ true → Lowest (leg_tests k m) m b → e ≡ breach 10 b → Breaks k m e

-- the message in front of the bytes is whole
abbrev pub Framed : List ℕ → Type 0
Framed bytes = (2 ≤ slice_index bytes 0) × (slice_index bytes 0 ≤ length bytes)

-- the message in front of the bytes, and its kind
abbrev pub front : List ℕ → List ℕ
front bytes = take (slice_index bytes 0) bytes

abbrev pub front_kind : Carrier → List ℕ → Kind
front_kind carrier bytes = kind_of carrier (slice_index bytes 1)

-- the message in front of the bytes is whole and keeps every rule
abbrev pub Good : Carrier → List ℕ → Type 0
Good carrier bytes = Framed bytes × Sound (front_kind carrier bytes) (front bytes)

-- the first refusal that fits the message in front of the bytes
pub data Refused (carrier : Carrier) (bytes : List ℕ) (e : Breach) : Type 0 where
  not_framed : (Framed bytes → ⊥) → e ≡ breach 8 0 → Refused carrier bytes e
  broken : Framed bytes → Breaks (front_kind carrier bytes) (front bytes) e → Refused carrier bytes e
