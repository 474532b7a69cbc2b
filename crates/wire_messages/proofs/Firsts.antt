-- Each reader refuses at the first byte that fails the tests of its type.
use Rattle.std.proofs.Common.{◌≡◌, ℕ, zero, suc, ◌+◌, ◌*◌, Bool, true, false, cond, eqb, List, [], ◌∷◌, get_or, take, drop, is_some, Some, None, Ok, Err, Option, Result, sym, refl, ap, ◌∙◌, arith, lit≤}
use Rattle.std.proofs.lemmas.Bool.Decides.{nat_tests}
use Rattle.std.specs.Option.{option_or, option_map}
use Rattle.std.specs.Result.{result_err}
use Rattle.wire_definitions.specs.Definitions.{definition_at, makeup_at, parts_at, first_bad_leg, keeps_leg_rule, is_variance, leg_count}
use Rattle.wire_fields.specs.Codes.{code_at, listed}
use Rattle.wire_fields.specs.Symbols.{first_bad, unless_bad, symbol_at}
use Rattle.wire_messages.proofs.Tests.{first_of, first_fail, Ordered}
use Rattle.wire_messages.specs.Forms.{fixed_at}
use Rattle.wire_messages.specs.Kinds.{table_length}
use Rattle.wire_messages.specs.Rules.{Test, fixed_tests, tests, leg_symbols}
use Rattle.wire_types.specs.Codes.{side_of, status_of, condition_of, issue_of, listing_of}
use Rattle.wire_types.specs.Legs.{LegRecord}
use Rattle.wire_types.specs.Records.{Record, Makeup, outright, spread}
use Rattle.wire_types.specs.Refusals.{Breach, breach, and_then}
use Rattle.wire_types.specs.declared.kind.FixedKind.{FixedKind}
use Rattle.wire_types.specs.declared.kind.FixedKind.TheVariants as the
use Rattle.wire_types.specs.declared.kind.Kind.TheVariants as the_kind

-- refusal 10 at a byte that was found
abbrev pub at_byte : Option ℕ → Option Breach
at_byte o = option_map (breach 10) o

-- the first refusal of the tests, or else a later one
abbrev pub first_breach : List Test → List ℕ → Option Breach → Option Breach
first_breach [] m later = later
first_breach (t ∷ ts) m later = option_or (at_byte (first_of t m)) (first_breach ts m later)

or_assoc : (o p : Option ℕ) (q : Option Breach) → option_or (at_byte o) (option_or (at_byte p) q) ≡ option_or (at_byte (option_or o p)) q
or_assoc None p q = refl
or_assoc (Some i) p q = refl

pub by_first_fail : (ts : List Test) (m : List ℕ) (later : Option Breach) → first_breach ts m later ≡ option_or (at_byte (first_fail ts m)) later
by_first_fail [] m later = refl
by_first_fail (t ∷ ts) m later = ap (option_or (at_byte (first_of t m))) (by_first_fail ts m later) ∙ or_assoc (first_of t m) (first_fail ts m) later

after_search : {X Y : Type 0} (o : Option ℕ) (x : X) (f : X → Result Y Breach) (q : Option Breach) → result_err (f x) ≡ q → result_err (and_then (unless_bad o x) f) ≡ option_or (at_byte o) q
after_search None x f q h = h
after_search (Some i) x f q h = refl

-- a symbol is tested, then the rest
after_symbol : {Y : Type 0} (m : List ℕ) (at : ℕ) (f : List ℕ → Result Y Breach) (q : Option Breach) → ((s : List ℕ) → result_err (f s) ≡ q) → result_err (and_then (symbol_at m at) f) ≡ option_or (at_byte (first_bad 6 m at)) q
after_symbol m at f q h = after_search (first_bad 6 m at) (take 6 (drop at m)) f q (h _)

after_listed : {X Y : Type 0} (o : Option X) (at : ℕ) (f : X → Result Y Breach) (q : Option Breach) → ((x : X) → result_err (f x) ≡ q) → result_err (and_then (listed o at) f) ≡ option_or (at_byte (cond (is_some o) None (Some at))) q
after_listed None at f q h = refl
after_listed (Some x) at f q h = h x

-- a code is tested, then the rest
after_code : {X Y : Type 0} (code : ℕ → Option X) (m : List ℕ) (at : ℕ) (f : X → Result Y Breach) (q : Option Breach) → ((x : X) → result_err (f x) ≡ q) → result_err (and_then (code_at code m at) f) ≡ option_or (at_byte (cond (is_some (code (get_or m at 0))) None (Some at))) q
after_code code m at f q h = after_listed (code (get_or m at 0)) at f q h

symbol_alone : (m : List ℕ) (f : List ℕ → Result Record Breach) → ((s : List ℕ) → result_err (f s) ≡ None) → result_err (and_then (symbol_at m 6) f) ≡ option_or (at_byte (first_bad 6 m 6)) None
symbol_alone m f h = after_symbol m 6 f None h

-- of a table's bytes
pub fixed_first : (t : FixedKind) (m : List ℕ) → result_err (fixed_at t m) ≡ first_breach (fixed_tests t) m None
fixed_first the.Time m = refl
fixed_first the.TimeReference m = refl
fixed_first the.UnitClear m = refl
fixed_first the.TradingStatus m = after_symbol m 6 _ _ (λ s. after_code status_of m 14 _ None (λ x. refl))
fixed_first the.SnapshotShort m = after_symbol m 6 _ _ (λ s. after_code condition_of m 28 _ _ (λ c. after_code status_of m 33 _ None (λ x. refl)))
fixed_first the.SnapshotLong m = after_symbol m 6 _ _ (λ s. after_code condition_of m 52 _ _ (λ c. after_code status_of m 57 _ None (λ x. refl)))
fixed_first the.SingleSideShort m = after_symbol m 6 _ _ (λ s. after_code side_of m 12 _ None (λ x. refl))
fixed_first the.SingleSideLong m = after_symbol m 6 _ _ (λ s. after_code side_of m 12 _ None (λ x. refl))
fixed_first the.TwoSideShort m = symbol_alone m _ (λ s. refl)
fixed_first the.TwoSideLong m = symbol_alone m _ (λ s. refl)
fixed_first the.TopTrade m = after_symbol m 6 _ _ (λ s. after_code condition_of m 36 _ None (λ x. refl))
fixed_first the.Settlement m = after_symbol m 6 _ _ (λ s. after_code issue_of m 24 _ None (λ x. refl))
fixed_first the.PriceLimits m = symbol_alone m _ (λ s. refl)
fixed_first the.EndOfSession m = refl
fixed_first the.EndOfDaySummary m = symbol_alone m _ (λ s. refl)
fixed_first the.OpenInterest m = symbol_alone m _ (λ s. refl)
fixed_first the.SpinImageAvailable m = refl
fixed_first the.SpinResponse m = refl
fixed_first the.SpinFinished m = refl

-- the tests of a table stand within it, from the lowest byte up
pub fixed_ordered : (t : FixedKind) → Ordered 0 (fixed_tests t) (table_length t)
fixed_ordered the.Time = lit≤ tt
fixed_ordered the.TimeReference = lit≤ tt
fixed_ordered the.UnitClear = lit≤ tt
fixed_ordered the.TradingStatus = (lit≤ tt, (lit≤ tt, lit≤ tt))
fixed_ordered the.SnapshotShort = (lit≤ tt, (lit≤ tt, (lit≤ tt, lit≤ tt)))
fixed_ordered the.SnapshotLong = (lit≤ tt, (lit≤ tt, (lit≤ tt, lit≤ tt)))
fixed_ordered the.SingleSideShort = (lit≤ tt, (lit≤ tt, lit≤ tt))
fixed_ordered the.SingleSideLong = (lit≤ tt, (lit≤ tt, lit≤ tt))
fixed_ordered the.TwoSideShort = (lit≤ tt, lit≤ tt)
fixed_ordered the.TwoSideLong = (lit≤ tt, lit≤ tt)
fixed_ordered the.TopTrade = (lit≤ tt, (lit≤ tt, lit≤ tt))
fixed_ordered the.Settlement = (lit≤ tt, (lit≤ tt, lit≤ tt))
fixed_ordered the.PriceLimits = (lit≤ tt, lit≤ tt)
fixed_ordered the.EndOfSession = lit≤ tt
fixed_ordered the.EndOfDaySummary = (lit≤ tt, lit≤ tt)
fixed_ordered the.OpenInterest = (lit≤ tt, lit≤ tt)
fixed_ordered the.SpinImageAvailable = lit≤ tt
fixed_ordered the.SpinResponse = lit≤ tt
fixed_ordered the.SpinFinished = lit≤ tt

pub definition_ordered : Ordered 0 (tests the_kind.Definition) 30
definition_ordered = (lit≤ tt, (lit≤ tt, (lit≤ tt, lit≤ tt)))

pub legs_ordered : (k at : ℕ) → Ordered at (leg_symbols k at) (at + 10 * k)
legs_ordered zero at = omega arith
legs_ordered (suc k) at =
    let e : at + 4 + 6 ≡ at + 10 = omega arith in
    let f : at + 10 * suc k ≡ at + 10 + 10 * k = omega arith in
    (omega arith, rw (e, f) (legs_ordered k (at + 10)))

-- the legs' symbols
legs_first : (k : ℕ) (m : List ℕ) (at : ℕ) → first_bad_leg k m at ≡ first_fail (leg_symbols k at) m
unfolding first_bad_leg
legs_first zero m at = refl
legs_first (suc k) m at = ap (option_or (first_bad 6 m (at + 4))) (legs_first k m (at + 10))

then_ok : {X Y : Type 0} (r : Result X Breach) (f : X → Y) → result_err (and_then r (λ x. Ok (f x))) ≡ result_err r
then_ok (Ok x) f = refl
then_ok (Err e) f = refl

-- of a definition: its tests, then what it is made of
pub definition_first : (m : List ℕ) → result_err (definition_at m) ≡ first_breach (tests the_kind.Definition) m (result_err (makeup_at m))
definition_first m =
    after_symbol m 6 _ _ (λ s. after_symbol m 16 _ _ (λ p. after_code listing_of m 29 _ _ (λ l. then_ok (makeup_at m) _)))

no_legs : (k : ℕ) (m : List ℕ) → k ≡ 0 → at_byte (first_fail (leg_symbols k 45) m) ≡ None
no_legs k m e = rw e refl

made : (variance none : Bool) (v : Makeup) (o : Option ℕ) (legs : List LegRecord) (q : Option Breach) → (variance ≡ true → q ≡ None) → (none ≡ true → q ≡ None) → at_byte o ≡ q → result_err (cond variance (Ok v) (cond none (Ok outright) (and_then (unless_bad o legs) (λ l. Ok (spread l))))) ≡ q
made true none v o legs q f g h = sym (f refl)
made false true v o legs q f g h = sym (g refl)
made false false v None legs q f g h = h
made false false v (Some i) legs q f g h = h

no_variance_legs : (m : List ℕ) → keeps_leg_rule m ≡ true → is_variance m ≡ true → leg_count m ≡ 0
no_variance_legs m h e = grind (arith, nat_tests)

-- what it is made of, where the rule is kept: the symbols of its legs
pub makeup_first : (m : List ℕ) → keeps_leg_rule m ≡ true → result_err (makeup_at m) ≡ at_byte (first_fail (leg_symbols (leg_count m) 45) m)
makeup_first m h =
    ap (λ v. result_err (cond v (parts_at m) (Err (breach 11 38)))) h
    ∙ made (is_variance m) (eqb (leg_count m) 0) _ (first_bad_leg (leg_count m) m 45) _ _
    (λ e. no_legs (leg_count m) m (no_variance_legs m h e))
    (λ e. no_legs (leg_count m) m (grind (arith, nat_tests)))
    (ap at_byte (legs_first (leg_count m) m 45))
