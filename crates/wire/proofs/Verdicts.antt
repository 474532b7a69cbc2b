-- The check of a block, by its laws: accepted blocks are their messages laid end to end, refused ones are told their first fault.
use Rattle.std.proofs.Common.{◌≡◌, ℕ, zero, suc, ◌+◌, ◌-◌, ◌<◌, ◌≤◌, Bool, true, false, cond, eqb, ltb, List, [], ◌∷◌, ◌++◌, length, get_or, take, drop, Ok, Err, Result, sym, refl, ap, ◌∙◌, subst, arith, ltb-false, ltb-true, eqb-true, MatchResult}
use borrow.Author.Tests.{eqb-false}
use Rattle.std.proofs.lemmas.List.{append_assoc, get_or-take, length-append, length-drop, take-append-drop}
use Rattle.std.specs.Result.{result_map_both}
use Rattle.wire_messages.proofs.Tails.{length_front, same_kind}
use Rattle.wire_messages.proofs.Verdicts.{Told, tell}
use Rattle.wire_messages.specs.Forms.{decoded}
use Rattle.wire_messages.specs.Rules.{Good, Refused, Sound, front}
use Rattle.wire_types.specs.Records.{Record}
use Rattle.wire_types.specs.Refusals.{Breach, Refusal, refusal, and_then, answers, refusal_of}
use Rattle.wire_types.specs.declared.fault.Fault.{Fault}
use Rattle.wire_types.specs.declared.fault.Layer.TheVariants as the_layer
use Rattle.wire_types.specs.declared.header.Carrier.{Carrier}
use Rattle.wire_types.specs.declared.header.Header.{Header}
use Rattle.wire.specs.Blocks.{behind_messages, checked, for_unit, header_rules, in_range, nothing_left}
use Rattle.wire.specs.Laws.{Accepted, AllWhole, Begins, FirstFault, Opened, Whole, end_to_end, in_message, left_over, no_header, other_length, other_unit, out_of_range}
use Rattle.wire_reader.specs.Reading.{header_of, placed}

-- k messages stand in front of the bytes, and then the rest
pub record Passed (carrier : Carrier) (k : ℕ) (bytes rest : List ℕ) : Type 0 where
  pub messages : List (List ℕ)
  pub counted : length messages ≡ k
  pub laid : bytes ≡ end_to_end messages ++ rest
  pub whole : AllWhole carrier messages

-- of k messages, the first at a place, one is refused as f, and all before it are whole
pub record Stopped (carrier : Carrier) (k place : ℕ) (bytes : List ℕ) (f : Refusal) : Type 0 where
  pub before : List (List ℕ)
  pub rest : List ℕ
  pub breach : Breach
  pub fewer : length before < k
  pub laid : bytes ≡ end_to_end before ++ rest
  pub whole : AllWhole carrier before
  pub refused : Refused carrier rest breach
  pub told : f ≡ placed (place + length before) breach

abbrev pub Walked : Carrier → ℕ → ℕ → List ℕ → Result (List ℕ) Refusal → Type 0
Walked carrier k place bytes (Ok rest) = Passed carrier k bytes rest
Walked carrier k place bytes (Err f) = Stopped carrier k place bytes f

-- the message in front of good bytes is whole
front_whole : (carrier : Carrier) (bytes : List ℕ) → Good carrier bytes → Whole carrier (front bytes)
front_whole carrier bytes g =
    let f = g.0 in
    let l = length_front bytes f in
    let first = get_or-take (get_or bytes 0 0) bytes 0 0 (omega (arith, f.0)) in
    (l ∙ sym first, omega (arith, f.0), subst (λ k. Sound k (front bytes)) (sym (same_kind carrier bytes f)) g.1)

-- one message more in front
one_more : (carrier : Carrier) (k place : ℕ) (bytes : List ℕ) (r : Result (List ℕ) Refusal) → Good carrier bytes → Walked carrier k (place + 1) (drop (get_or bytes 0 0) bytes) r → Walked carrier (suc k) place bytes r
one_more carrier k place bytes (Ok rest) g w =
    record {
      messages = front bytes ∷ w.messages;
      counted = ap suc w.counted;
      laid = sym (take-append-drop (get_or bytes 0 0) bytes) ∙ ap (λ b. front bytes ++ b) w.laid ∙ sym (append_assoc (front bytes) (end_to_end w.messages) rest);
      whole = (front_whole carrier bytes g, w.whole);
    }
one_more carrier k place bytes (Err f) g w =
    let n = w.fewer in
    let e : place + 1 + length w.before ≡ place + suc (length w.before) = omega arith in
    record {
      before = front bytes ∷ w.before;
      rest = w.rest;
      breach = w.breach;
      fewer = omega arith;
      laid = sym (take-append-drop (get_or bytes 0 0) bytes) ∙ ap (λ b. front bytes ++ b) w.laid ∙ sym (append_assoc (front bytes) (end_to_end w.before) w.rest);
      whole = (front_whole carrier bytes g, w.whole);
      refused = w.refused;
      told = w.told ∙ ap (λ p. placed p w.breach) e;
    }

one_step : (carrier : Carrier) (k place : ℕ) (bytes : List ℕ) (d : Result Record Breach) (next : Result (List ℕ) Refusal) → Told carrier bytes d → Walked carrier k (place + 1) (drop (get_or bytes 0 0) bytes) next → Walked carrier (suc k) place bytes (and_then (result_map_both (λ x. x) (placed place) d) (λ _. next))
one_step carrier k place bytes (Ok x) next t w = one_more carrier k place bytes next t.good w
one_step carrier k place bytes (Err e) next t w =
    let z : place ≡ place + 0 = omega arith in
    record { before = []; rest = bytes; breach = e; fewer = omega arith; laid = refl; whole = tt; refused = t; told = ap (λ p. placed p e) z }

-- the walk over k messages
pub walk : (carrier : Carrier) (k place : ℕ) (bytes : List ℕ) → Walked carrier k place bytes (behind_messages carrier k place bytes)
unfolding behind_messages
walk carrier zero place bytes = record { messages = []; counted = refl; laid = refl; whole = tt }
walk carrier (suc k) place bytes =
    one_step carrier k place bytes (decoded carrier bytes) (behind_messages carrier k (place + 1) (drop (get_or bytes 0 0) bytes)) (tell carrier bytes) (walk carrier k (place + 1) (drop (get_or bytes 0 0) bytes))

-- what an answer says of a block
abbrev pub Verdict : Carrier → ℕ → List ℕ → Result Header Refusal → Type 0
Verdict carrier unit b (Ok h) = Accepted carrier unit b h
Verdict carrier unit b (Err f) = FirstFault carrier unit b f

empty : (rest : List ℕ) → length rest ≡ 0 → rest ≡ []
empty [] h = refl
empty (x ∷ rest) h = absurd (omega arith)

begin : (carrier : Carrier) (b : List ℕ) (ms : List (List ℕ)) (rest : List ℕ) → drop 8 b ≡ end_to_end ms ++ rest → AllWhole carrier ms → Begins carrier b ms rest
begin carrier b ms rest laid whole =
    record { laid = sym (take-append-drop 8 b) ∙ ap (λ l. take 8 b ++ l) laid; whole = whole }

behind_last : (b : List ℕ) (ms : List (List ℕ)) (rest : List ℕ) → 8 ≤ length b → drop 8 b ≡ end_to_end ms ++ rest → length b - length rest ≡ 8 + length (end_to_end ms)
behind_last b ms rest h laid =
    omega (arith, ap length laid, length-append (end_to_end ms) rest, length-drop 8 b)

all_passed : (carrier : Carrier) (unit : ℕ) (b rest : List ℕ) (v : Bool) → eqb (length rest) 0 ≡ v → Opened carrier unit b → Passed carrier (header_of b).count (drop 8 b) rest → Verdict carrier unit b (cond v (Ok (header_of b)) (Err (refusal 12 the_layer.Header (length b - length rest))))
all_passed carrier unit b rest true e o w =
    let nothing = empty rest (eqb-true _ _ e) in
    record {
      header = refl;
      «open» = o;
      messages = w.messages;
      counted = w.counted;
      begins = begin carrier b w.messages [] (w.laid ∙ ap (λ r. end_to_end w.messages ++ r) nothing) w.whole;
    }
all_passed carrier unit b rest false e o w =
    let some = eqb-false _ _ e in
    left_over o w.messages rest (begin carrier b w.messages rest w.laid w.whole) w.counted (omega arith)
    (ap (refusal 12 the_layer.Header) (behind_last b w.messages rest o.eight w.laid))

-- behind a good header
behind_opened : (carrier : Carrier) (unit : ℕ) (b : List ℕ) (r : Result (List ℕ) Refusal) → Opened carrier unit b → Walked carrier (header_of b).count 0 (drop 8 b) r → Verdict carrier unit b (and_then (result_map_both length (λ e. e) r) (λ left. nothing_left (length b) (header_of b) left))
behind_opened carrier unit b (Ok rest) o w = all_passed carrier unit b rest (eqb (length rest) 0) refl o w
behind_opened carrier unit b (Err f) o w =
    let z : 0 + length w.before ≡ length w.before = omega arith in
    in_message o w.before w.rest w.breach (begin carrier b w.before w.rest w.laid w.whole) w.fewer w.refused
    (w.told ∙ ap (λ p. placed p w.breach) z)

-- what is done behind the header's rules
abbrev pub behind_rules : Carrier → List ℕ → Result Header Refusal
behind_rules carrier b =
    and_then (result_map_both length (λ e. e) (behind_messages carrier (header_of b).count 0 (drop 8 b))) (λ left. nothing_left (length b) (header_of b) left)

by_rules : (carrier : Carrier) (unit : ℕ) (b : List ℕ) (n u r : Bool) → eqb (header_of b).length (length b) ≡ n → for_unit unit (header_of b) ≡ u → in_range carrier (header_of b) ≡ r → 8 ≤ length b → Verdict carrier unit b (and_then (cond n (cond u (cond r (Ok (header_of b)) (Err (refusal 7 the_layer.Header 4))) (Err (refusal 6 the_layer.Header 3))) (Err (refusal 5 the_layer.Header 0))) (λ _. behind_rules carrier b))
by_rules carrier unit b true true true n u r h =
    behind_opened carrier unit b _ (record { eight = h; whole = eqb-true _ _ n; ours = u; range = r }) (walk carrier (header_of b).count 0 (drop 8 b))
by_rules carrier unit b true true false n u r h = out_of_range h (eqb-true _ _ n) u r refl
by_rules carrier unit b true false v n u r h = other_unit h (eqb-true _ _ n) u refl
by_rules carrier unit b false v w n u r h = other_length h (eqb-false _ _ n) refl

by_header : (carrier : Carrier) (unit : ℕ) (b : List ℕ) (v : Bool) → ltb (length b) 8 ≡ v → Verdict carrier unit b (and_then (cond v (Err (refusal 4 the_layer.Header 0)) (Ok (header_of b))) (λ h. and_then (header_rules carrier unit (length b) h) (λ _. and_then (result_map_both length (λ e. e) (behind_messages carrier h.count 0 (drop 8 b))) (λ left. nothing_left (length b) h left))))
by_header carrier unit b true e = no_header (ltb-true _ _ e) refl
by_header carrier unit b false e =
    by_rules carrier unit b (eqb (header_of b).length (length b)) (for_unit unit (header_of b)) (in_range carrier (header_of b)) refl refl refl (ltb-false _ _ e)

-- any block
pub verdict : (carrier : Carrier) (unit : ℕ) (b : List ℕ) → Verdict carrier unit b (checked carrier unit b)
verdict carrier unit b = by_header carrier unit b (ltb (length b) 8) refl

-- a check's answer
pub verdict_cases : (carrier : Carrier) (unit : ℕ) (b : List ℕ) (r : Result Header Fault) → answers (λ h. h) r ≡ checked carrier unit b → MatchResult r (λ h. Accepted carrier unit b h) (λ f. FirstFault carrier unit b (refusal_of f))
verdict_cases carrier unit b (Ok h) e = subst (Verdict carrier unit b) (sym e) (verdict carrier unit b)
verdict_cases carrier unit b (Err f) e = subst (Verdict carrier unit b) (sym e) (verdict carrier unit b)
