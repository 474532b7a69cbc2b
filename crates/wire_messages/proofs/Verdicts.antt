-- What a reader answers, by the rules: a message is sound, or the first rule that it breaks is told.
use Rattle.std.proofs.Common.{◌≡◌, ℕ, ◌+◌, ◌*◌, ◌≤◌, Bool, true, false, cond, ltb, leb, ◌⊎◌, List, length, get_or, take, Some, None, Ok, Err, Option, Result, sym, refl, ap, ◌∙◌, subst, inl, inr, ⊎_elim, arith, ltb-false, ltb-true, leb-false, leb-true, MatchResult}
use Rattle.std.specs.Option.{option_or}
use Rattle.std.specs.Result.{result_err}
use Rattle.wire_definitions.specs.Definitions.{makeup_at, keeps_leg_rule, leg_count}
use Rattle.wire_messages.proofs.Firsts.{at_byte, by_first_fail, fixed_first, fixed_ordered, definition_first, definition_ordered, legs_ordered, makeup_first}
use Rattle.wire_messages.proofs.Tails.{framed_form, tail_ignored}
use Rattle.wire_messages.proofs.Tests.{first_fail, first_fail_none, first_fail_some, outside_front, outside_whole}
use Rattle.wire_messages.specs.Forms.{kind_at, form_at, form, frame, decoded}
use Rattle.wire_messages.specs.Kinds.{least, table_length}
use Rattle.wire_messages.specs.Rules.{Within, Lowest, Sound, Breaks, too_short, not_listed, rule_broken, leg_not_listed, Framed, Refused, not_framed, broken, fixed_tests, tests, leg_symbols, front, front_kind}
use Rattle.wire_messages.specs.Tails.{Taken}
use Rattle.wire_types.specs.Records.{Record, meaning}
use Rattle.wire_types.specs.Refusals.{Breach, breach, breach_of, and_then, reads}
use Rattle.wire_types.specs.declared.fault.Flaw.{Flaw}
use Rattle.wire_types.specs.declared.header.Carrier.{Carrier}
use Rattle.wire_types.specs.declared.kind.FixedKind.{FixedKind}
use Rattle.wire_types.specs.declared.kind.Kind.{Kind}
use Rattle.wire_types.specs.declared.message.Message.{Message}
use Rattle.wire_types.specs.declared.kind.Kind.TheVariants as the_kind

-- an answer says of a message of a kind what holds of it
abbrev pub Judged : Kind → List ℕ → Result Record Breach → Type 0
Judged k m (Ok x) = Sound k m
Judged k m (Err e) = Breaks k m e

nowhere : (o : Option ℕ) → at_byte o ≡ None → o ≡ None
nowhere None h = refl
nowhere (Some i) h = cc

somewhere : (o : Option ℕ) (e : Breach) → at_byte o ≡ Some e → (b : ℕ) × (o ≡ Some b) × (e ≡ breach 10 b)
somewhere None e h = cc
somewhere (Some b) e h = (b, refl, (cc))

or_nothing : {X : Type 0} (o : Option X) → option_or o None ≡ o
or_nothing None = refl
or_nothing (Some x) = refl

judge_fixed : (t : FixedKind) (m : List ℕ) (r : Result Record Breach) → table_length t ≤ length m → result_err r ≡ at_byte (first_fail (fixed_tests t) (take (table_length t) m)) → Judged (the_kind.Fixed t) m r
judge_fixed t m (Ok x) long h =
    let w = first_fail_none (fixed_tests t) (take (table_length t) m) (nowhere _ (sym h)) in
    record { long = long; within = λ b o. w b (outside_front 0 (fixed_tests t) (table_length t) m b (fixed_ordered t) o); rule = refl; legs = λ b o. o }
judge_fixed t m (Err e) long h =
    let s = somewhere _ e (sym h) in
    let low = first_fail_some 0 (fixed_tests t) (table_length t) (take (table_length t) m) s.0 (fixed_ordered t) s.1 in
    not_listed s.0 long (
      outside_whole 0 (fixed_tests t) (table_length t) m s.0 (fixed_ordered t) low.0,
      λ c q o. low.1 c q (outside_front 0 (fixed_tests t) (table_length t) m c (fixed_ordered t) o),
    )
    s.2

judge_legs : (m : List ℕ) (r : Result Record Breach) → 45 ≤ length m → Within (tests the_kind.Definition) m → keeps_leg_rule m ≡ true → result_err r ≡ at_byte (first_fail (leg_symbols (leg_count m) 45) m) → Judged the_kind.Definition m r
judge_legs m (Ok x) long w kept h =
    record { long = long; within = w; rule = kept; legs = first_fail_none (leg_symbols (leg_count m) 45) m (nowhere _ (sym h)) }
judge_legs m (Err e) long w kept h =
    let s = somewhere _ e (sym h) in
    leg_not_listed s.0 long w kept
    (first_fail_some 45 (leg_symbols (leg_count m) 45) (45 + 10 * leg_count m) m s.0 (legs_ordered (leg_count m) 45) s.1) s.2

judge_broken : (m : List ℕ) (r : Result Record Breach) → 45 ≤ length m → Within (tests the_kind.Definition) m → keeps_leg_rule m ≡ false → result_err r ≡ Some (breach 11 38) → Judged the_kind.Definition m r
judge_broken m (Ok x) long w gone h = cc
judge_broken m (Err e) long w gone h = rule_broken long w gone (cc)

rule_gone : (m : List ℕ) → keeps_leg_rule m ≡ false → result_err (makeup_at m) ≡ Some (breach 11 38)
rule_gone m h = rw h refl

judge_makeup : (m : List ℕ) (r : Result Record Breach) (v : Bool) → keeps_leg_rule m ≡ v → 45 ≤ length m → Within (tests the_kind.Definition) m → result_err r ≡ result_err (makeup_at m) → Judged the_kind.Definition m r
judge_makeup m r true e long w h = judge_legs m r long w e (h ∙ makeup_first m e)
judge_makeup m r false e long w h = judge_broken m r long w e (h ∙ rule_gone m e)

judge_at : (m : List ℕ) (r : Result Record Breach) (b : ℕ) → 45 ≤ length m → Lowest (tests the_kind.Definition) m b → result_err r ≡ Some (breach 10 b) → Judged the_kind.Definition m r
judge_at m (Ok x) b long low h = cc
judge_at m (Err e) b long low h = not_listed b long low (cc)

judge_tests : (m : List ℕ) (r : Result Record Breach) (o : Option ℕ) → first_fail (tests the_kind.Definition) m ≡ o → 45 ≤ length m → result_err r ≡ option_or (at_byte o) (result_err (makeup_at m)) → Judged the_kind.Definition m r
judge_tests m r None e long h = judge_makeup m r (keeps_leg_rule m) refl long (first_fail_none (tests the_kind.Definition) m e) h
judge_tests m r (Some b) e long h = judge_at m r b long (first_fail_some 0 (tests the_kind.Definition) 30 m b definition_ordered e) h

-- a message that is long enough
judge_kind : (k : Kind) (m : List ℕ) → least k ≤ length m → Judged k m (kind_at k m)
judge_kind (the_kind.Fixed t) m long =
    judge_fixed t m _ long (fixed_first t (take (table_length t) m) ∙ by_first_fail (fixed_tests t) (take (table_length t) m) None ∙ or_nothing _)
judge_kind the_kind.Definition m long =
    judge_tests m _ (first_fail (tests the_kind.Definition) m) refl long (definition_first m ∙ by_first_fail (tests the_kind.Definition) m _)
judge_kind the_kind.Unlisted m long = record { long = long; within = λ b o. o; rule = refl; legs = λ b o. o }

judge_length : (k : Kind) (m : List ℕ) (v : Bool) → ltb (length m) (least k) ≡ v → Judged k m (cond v (Err (breach 9 0)) (kind_at k m))
judge_length k m true e = too_short (ltb-true _ _ e) refl
judge_length k m false e = judge_kind k m (ltb-false _ _ e)

-- any message
pub judge : (k : Kind) (m : List ℕ) → Judged k m (form_at k m)
judge k m = judge_length k m (ltb (length m) (least k)) refl

-- an answer says of bytes what holds of the message in front
abbrev pub Told : Carrier → List ℕ → Result Record Breach → Type 0
Told carrier bytes (Ok x) = Taken carrier bytes x
Told carrier bytes (Err e) = Refused carrier bytes e

tell_framed : (carrier : Carrier) (bytes : List ℕ) (r : Result Record Breach) → Framed bytes → decoded carrier bytes ≡ r → Judged (front_kind carrier bytes) (front bytes) r → Told carrier bytes r
tell_framed carrier bytes (Ok x) f h j = record { good = (f, j); tail = tail_ignored carrier bytes x f j h }
tell_framed carrier bytes (Err e) f h j = broken f j

framed_or_not : (bytes : List ℕ) → Framed bytes ⊎ ((Framed bytes → ⊥) × (frame bytes ≡ Err (breach 8 0)))
framed_or_not bytes = by_test (leb 2 (get_or bytes 0 0)) (leb (get_or bytes 0 0) (length bytes)) refl refl
  where
    by_test : (a b : Bool) → leb 2 (get_or bytes 0 0) ≡ a → leb (get_or bytes 0 0) (length bytes) ≡ b → Framed bytes ⊎ ((Framed bytes → ⊥) × (frame bytes ≡ Err (breach 8 0)))
    by_test true true p q = inl (leb-true _ _ p, leb-true _ _ q)
    by_test true false p q = inr ((λ f. let l = leb-false _ _ q in omega (arith, f.1)), rw (p, q) refl)
    by_test false b p q = inr ((λ f. let l = leb-false _ _ p in omega (arith, f.0)), rw p refl)

-- any bytes
pub tell : (carrier : Carrier) (bytes : List ℕ) → Told carrier bytes (decoded carrier bytes)
tell carrier bytes =
    ⊎_elim
    (λ f. tell_framed carrier bytes (decoded carrier bytes) f refl (subst (Judged (front_kind carrier bytes) (front bytes)) (sym (framed_form carrier bytes f)) (judge (front_kind carrier bytes) (front bytes))))
    (λ n. subst (Told carrier bytes) (sym (ap (λ r. and_then r (λ m. form carrier m)) n.1)) (not_framed n.0 refl))
    (framed_or_not bytes)

-- a reader's answer
pub told_cases : (carrier : Carrier) (bytes : List ℕ) (r : Result Message Flaw) → reads meaning r ≡ decoded carrier bytes → MatchResult r (λ x. Taken carrier bytes (meaning x)) (λ e. Refused carrier bytes (breach_of e))
told_cases carrier bytes (Ok x) h = subst (Told carrier bytes) (sym h) (tell carrier bytes)
told_cases carrier bytes (Err e) h = subst (Told carrier bytes) (sym h) (tell carrier bytes)
