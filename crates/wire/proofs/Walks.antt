-- The steps of a walk over the messages of a block.
use Rattle.std.proofs.Common.{◌≡◌, ℕ, zero, suc, ◌+◌, ◌-◌, ◌<◌, ◌≤◌, Bool, true, false, cond, ltb, List, length, get_or, drop, Some, None, Ok, Err, Result, sym, refl, ap, ◌∙◌, subst, ⊎_elim, arith}
use Rattle.std.proofs.lemmas.List.{length-drop}
use Rattle.std.proofs.str.Laws.{order}
use Rattle.std.specs.Result.{result_map_both}
use Rattle.wire_types.specs.Records.{Record}
use Rattle.wire_types.specs.Refusals.{Refusal, and_then}
use Rattle.wire_types.specs.declared.header.Carrier.{Carrier}
use Rattle.wire_types.specs.declared.header.Header.{Header}
use Rattle.wire.specs.Blocks.{behind_messages, left_behind, header_rules}
use Rattle.wire_reader.specs.Reading.{Standing, at_start, header_of, after_header, behind_header, header_step, message_ahead, message_step, after_message, behind_message, message_at, moved}

pub step : (carrier : Carrier) (k place : ℕ) (bytes : List ℕ) → 0 < k → behind_messages carrier k place bytes ≡ and_then (message_at carrier place bytes) (λ _. behind_messages carrier (k - 1) (place + 1) (drop (get_or bytes 0 0) bytes))
unfolding behind_messages
step carrier zero place bytes h = absurd (omega arith)
step carrier (suc k) place bytes h = let e : suc k - 1 ≡ k = omega arith in rw e refl

some_goes : {X : Type 0} (r : Result Record Refusal) (y : Record) (next : Result X Refusal) → Ok (Some y) ≡ result_map_both Some (λ e. e) r → and_then r (λ _. next) ≡ next
some_goes (Ok x) y next h = refl
some_goes (Err f) y next h = cc

none_never : (r : Result Record Refusal) → Ok None ≡ result_map_both Some (λ e. e) r → ⊥
none_never (Ok x) h = cc
none_never (Err f) h = cc

err_stops : {X : Type 0} (r : Result Record Refusal) (f : Refusal) (next : Result X Refusal) → Err f ≡ result_map_both Some (λ e. e) r → and_then r (λ _. next) ≡ Err f
err_stops (Ok x) f next h = cc
err_stops (Err g) f next h = cc

inside : (s : Standing) → s.place < s.count → message_step s ≡ result_map_both Some (λ e. e) (message_ahead s)
inside s h = grind arith

outside : (s : Standing) → s.count ≤ s.place → message_step s ≡ Ok None
outside s h = grind arith

module _ (s : Standing) where
  -- a message came, so one was left
  some_inside : (y : Record) → Ok (Some y) ≡ message_step s → s.place < s.count
  some_inside y h =
      ⊎_elim (λ a. a) (λ b. absurd (let e = h ∙ outside s b in cc))
      (order s.place s.count)

  -- a message came: the walk goes on behind it
  pub on_some : (y : Record) (t : Standing) → Ok (Some y) ≡ message_step s → t ≡ after_message s → (left_behind s ≡ left_behind t) × (t.count - t.place < s.count - s.place)
  on_some y t h e =
      let lt = some_inside y h in
      let there : t ≡ behind_message s = e ∙ sym (ap (λ r. moved r s (behind_message s)) h) in
      let p : s.count - s.place - 1 ≡ s.count - (s.place + 1) = omega arith in
      let on : behind_messages s.carrier (s.count - s.place) s.place s.ahead ≡ behind_messages s.carrier (s.count - (s.place + 1)) (s.place + 1) (drop (get_or s.ahead 0 0) s.ahead) =
      step s.carrier (s.count - s.place) s.place s.ahead (omega arith) ∙ some_goes (message_ahead s) y _ (h ∙ inside s lt) ∙ rw p refl in
      subst (λ u. (left_behind s ≡ left_behind u) × (u.count - u.place < s.count - s.place)) (sym there)
      (ap (result_map_both length (λ e. e)) on, omega arith)

  -- none came: what is ahead is left
  pub on_none : (t : Standing) → Ok None ≡ message_step s → t ≡ after_message s → left_behind s ≡ Ok (length t.ahead)
  unfolding behind_messages
  on_none t h e =
      let there : t ≡ s = e ∙ sym (ap (λ r. moved r s (behind_message s)) h) in
      ⊎_elim (λ a. absurd (none_never (message_ahead s) (h ∙ inside s a)))
      (λ b. let p : s.count - s.place ≡ 0 = omega arith in rw (p, there) refl)
      (order s.place s.count)

  -- a refusal came: it is the first
  pub on_err : (f : Refusal) → Err f ≡ message_step s → left_behind s ≡ Err f
  on_err f h =
      ⊎_elim
      (λ a. ap (result_map_both length (λ e. e)) (step s.carrier (s.count - s.place) s.place s.ahead (omega arith) ∙ err_stops (message_ahead s) f _ (h ∙ inside s a)))
      (λ b. absurd (let e = h ∙ outside s b in cc))
      (order s.place s.count)

ok_after : {X Y E : Type 0} (r : Result X E) (next : Result Y E) (y : Y) → and_then r (λ _. next) ≡ Ok y → next ≡ Ok y
ok_after (Ok x) next y h = h
ok_after (Err e) next y h = cc

-- what is left is no longer than what was ahead
pub shrinks : (carrier : Carrier) (k place : ℕ) (bytes rest : List ℕ) → behind_messages carrier k place bytes ≡ Ok rest → length rest ≤ length bytes
unfolding behind_messages
shrinks carrier zero place bytes rest h = let e : bytes ≡ rest = cc in subst (λ b. length rest ≤ length b) (sym e) (omega arith)
shrinks carrier (suc k) place bytes rest h =
    let on : length rest ≤ length (drop (get_or bytes 0 0) bytes) = shrinks carrier k (place + 1) (drop (get_or bytes 0 0) bytes) rest (ok_after (message_at carrier place bytes) (behind_messages carrier k (place + 1) (drop (get_or bytes 0 0) bytes)) rest h) in
    omega (arith, length-drop (get_or bytes 0 0) bytes)

mapped_ok : {X Y E : Type 0} (f : X → Y) (r : Result X E) (y : Y) → result_map_both f (λ e. e) r ≡ Ok y → (x : X) × (r ≡ Ok x) × (f x ≡ y)
mapped_ok f (Ok x) y h = (x, refl, (cc))
mapped_ok f (Err e) y h = cc

pub left_within : (s : Standing) (n : ℕ) → left_behind s ≡ Ok n → n ≤ length s.ahead
left_within s n h =
    let m = mapped_ok length _ n h in
    let w = shrinks s.carrier (s.count - s.place) s.place s.ahead m.0 m.1 in
    omega (arith, m.2)

header_read : (v : Bool) (e : Refusal) (x h : Header) → Ok h ≡ cond v (Err e) (Ok x) → (v ≡ false) × (h ≡ x)
header_read true e x h p = cc
header_read false e x h p = (refl, (cc))

-- a reader opened a block of good header h, and stands at s
module _ (carrier : Carrier) (unit : ℕ) (b : List ℕ) (start s : Standing) (h g : Header)
    (o : start ≡ at_start carrier b) (p : Ok h ≡ header_step start) (e : s ≡ after_header start)
    (q : Ok g ≡ header_rules carrier unit (length b) h) where
  -- where it stands, and what its header is
  opened : (s ≡ behind_header (at_start carrier b)) × (h ≡ header_of b)
  opened =
      let c = header_read (ltb (length b) 8) _ (header_of b) h (rw o at p) in
      (e ∙ rw (o, c.0) refl, c.1)

  pub left_in_block : (left : ℕ) → Ok left ≡ left_behind s → left ≤ length b
  left_in_block left l =
      let w = left_within s left (sym l) in
      let there = opened.0 in
      let d = length-drop 8 b in
      omega (arith, ap (λ t. length t.ahead) there)
