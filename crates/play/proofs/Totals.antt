-- What is noted of the messages that are left, on top of what has been noted.
use Rattle.std.proofs.Common.{◌≡◌, ℕ, ◌+◌, ◌-◌, ◌<◌, ◌≤◌, Bool, true, false, cond, List, [], ◌∷◌, length, drop, Some, None, Ok, Err, Option, sym, refl, ap, ◌∙◌, add-zero, add_assoc, zero-add, arith}
use Rattle.wire_messages.specs.Forms.{frame}
use Rattle.wire_messages.specs.Frames.{framed}
use Rattle.wire_types.specs.Refusals.{Breach}
use Rattle.play.proofs.Frames.{framed_none, framed_more, framed_stop}
use Rattle.std.specs.Option.{option_map}
use Rattle.market.specs.Laws.{NeverFull}
use Rattle.market.specs.Market.{Market, Kind, View, full_for, applied, applied_all, unbounded}
use Rattle.market.proofs.Held.{unbounded_is_fold}
use Rattle.play.specs.Plays.{NoneIsFirstOfNone, count_declined, first_declined, outcome}
use Rattle.play.specs.Steps.{noted, so_far}
use Rattle.play.specs.declared.block.Declined.{Declined}
use Rattle.play.specs.declared.block.Played.{Played}

-- what was noted, and of the messages behind it how many do not fit and which is the first
abbrev pub with_more : Option Declined → ℕ → Option ℕ → Played
with_more None n o = record { declined = option_map (λ i. record { count = n; first = i }) o }
with_more (Some d) n o = record { declined = Some (record { count = d.count + n; first = d.first }) }

abbrev pub total : ℕ → Played → View Market Kind → List (List ℕ) → Played
total i p v xs = with_more p.declined (count_declined v xs) (first_declined i v xs)

none_more : (o : Option Declined) → with_more o 0 None ≡ record { declined = o }
none_more None = refl
none_more (Some d) = ap (λ n. record { declined = Some (record { count = n; first = d.first }) }) (add-zero d.count)

pub total_none : (i : ℕ) (p : Played) (v : View Market Kind) → total i p v [] ≡ p
unfolding count_declined first_declined
total_none i p v = none_more p.declined

one_more : (b : Bool) (i : ℕ) (d : Option Declined) (n : ℕ) (o : Option ℕ) → with_more d (cond b 1 0 + n) (cond b (Some i) o) ≡ with_more (noted b i (record { declined = d })).declined n o
one_more true i None n o = refl
one_more true i (Some d) n o = ap (λ k. record { declined = Some (record { count = k; first = d.first }) }) (sym (add_assoc d.count 1 n))
one_more false i d n o = ap (λ k. with_more d k o) (zero-add n)

pub total_more : (i : ℕ) (p : Played) (v : View Market Kind) (x : List ℕ) (xs : List (List ℕ)) → total i p v (x ∷ xs) ≡ total (i + 1) (noted (full_for v x) i p) (applied v x) xs
unfolding count_declined first_declined
total_more i p v x xs = one_more (full_for v x) i p.declined (count_declined (applied v x) xs) (first_declined (i + 1) (applied v x) xs)

-- how many were noted does not hang on the place that is next
same_count : (i j : ℕ) (d : Option Declined) → (so_far i (record { declined = d })).count ≡ (so_far j (record { declined = d })).count
same_count i j None = refl
same_count i j (Some d) = refl

noted_few : (b : Bool) (i : ℕ) (p : Played) → (so_far i p).count ≤ i → (so_far (i + 1) (noted b i p)).count ≤ i + 1
noted_few true i p h = omega arith
noted_few false i p h = omega (arith, same_count i (i + 1) p.declined)

-- of `count` messages `place` have been played: p is noted, v is the book, `rest` the bytes that are left; w and q are what the whole gives
pub record Midway (count place : ℕ) (rest : List ℕ) (v : View Market Kind) (p : Played) (w : View Market Kind) (q : Played) : Type 0 where
  pub few : (so_far place p).count ≤ place
  pub book : applied_all v (framed (count - place) rest) ≡ w
  pub played : total place p v (framed (count - place) rest) ≡ q

-- before the first message
pub none_played : (count : ℕ) (bytes : List ℕ) (v : View Market Kind) (p : Played) → p.declined ≡ None → Midway count 0 bytes v p (applied_all v (framed count bytes)) (outcome v (framed count bytes))
none_played count bytes v p none =
    let k : count - 0 ≡ count = omega arith in
    record {
      few = omega (arith, ap (λ o. (so_far 0 (record { declined = o })).count) none);
      book = ap (λ n. applied_all v (framed n bytes)) k;
      played = ap (λ o. total 0 (record { declined = o }) v (framed (count - 0) bytes)) none ∙ ap (λ n. outcome v (framed n bytes)) k;
    }

-- nothing is left
done : (i : ℕ) (p : Played) (v : View Market Kind) (xs : List (List ℕ)) (w : View Market Kind) (q : Played) → xs ≡ [] → applied_all v xs ≡ w → total i p v xs ≡ q → (v ≡ w) × (p ≡ q)
unfolding applied_all
done i p v xs w q none book played =
    (sym (ap (applied_all v) none) ∙ book, sym (total_none i p v) ∙ sym (ap (total i p v) none) ∙ played)

module _ (count place : ℕ) (rest : List ℕ) (v : View Market Kind) (p : Played) (w : View Market Kind) (q : Played) (mid : Midway count place rest v p w q) where
  pub one_played : (m rest' : List ℕ) (v' : View Market Kind) (p' : Played) → place < count → Ok m ≡ frame rest → rest' ≡ drop (length m) rest → v' ≡ applied v m → p' ≡ noted (full_for v m) place p → Midway count (place + 1) rest' v' p' w q
  unfolding applied_all
  one_played m rest' v' p' lt e er ev ep =
      let k : (count - place) - 1 ≡ count - (place + 1) = omega arith in
      let ys : List (List ℕ) = framed (count - (place + 1)) (drop (length m) rest) in
      let xs : framed (count - place) rest ≡ m ∷ ys = framed_more (count - place) rest m (omega arith) e ∙ ap (λ n. m ∷ framed n (drop (length m) rest)) k in
      let zs : framed (count - (place + 1)) rest' ≡ ys = ap (framed (count - (place + 1))) er in
      let few : (so_far (place + 1) (noted (full_for v m) place p)).count ≤ place + 1 = noted_few (full_for v m) place p mid.few in
      record {
        few = omega (arith, ap (λ (x : Played). (so_far (place + 1) x).count) ep);
        book = ap (applied_all v') zs ∙ ap (λ x. applied_all x ys) ev ∙ sym (ap (applied_all v) xs) ∙ mid.book;
        played =
            ap (total (place + 1) p' v') zs
            ∙ ap (λ x. total (place + 1) p' x ys) ev
            ∙ ap (λ x. total (place + 1) x (applied v m) ys) ep
            ∙ sym (total_more place p v m ys)
            ∙ sym (ap (total place p v) xs)
            ∙ mid.played;
      }

  pub all_played : count ≤ place → (v ≡ w) × (p ≡ q)
  all_played end =
      let k : count - place ≡ 0 = omega arith in
      done place p v (framed (count - place) rest) w q (ap (λ n. framed n rest) k ∙ framed_none rest) mid.book mid.played

  pub broken_off : (e : Breach) → Err e ≡ frame rest → (v ≡ w) × (p ≡ q)
  broken_off e is = done place p v (framed (count - place) rest) w q (framed_stop (count - place) rest e is) mid.book mid.played

-- ---- none declined

counted_parts : (b : Bool) (i n : ℕ) (o : Option ℕ) → (o ≡ None → n ≡ 0) × (n ≡ 0 → o ≡ None) → (cond b (Some i) o ≡ None → cond b 1 0 + n ≡ 0) × (cond b 1 0 + n ≡ 0 → cond b (Some i) o ≡ None)
counted_parts true i n o both = (λ e. cc, λ e. absurd (omega arith))
counted_parts false i n o both = (λ e. zero-add n ∙ both.0 e, λ e. both.1 (sym (zero-add n) ∙ e))

pub none_is_first_of_none : NoneIsFirstOfNone
unfolding count_declined first_declined
none_is_first_of_none i v [] = (λ e. refl, λ e. refl)
none_is_first_of_none i v (x ∷ xs) = counted_parts (full_for v x) i (count_declined (applied v x) xs) (first_declined (i + 1) (applied v x) xs) (none_is_first_of_none (i + 1) (applied v x) xs)

none_full : (b : Bool) (i : ℕ) (o : Option ℕ) → cond b (Some i) o ≡ None → (b ≡ false) × (o ≡ None)
none_full true i o e = cc
none_full false i o e = (refl, e)

never_full : (i : ℕ) (v : View Market Kind) (xs : List (List ℕ)) → first_declined i v xs ≡ None → NeverFull v xs
unfolding first_declined
never_full i v [] e = tt
never_full i v (x ∷ xs) e = let parts = none_full (full_for v x) i (first_declined (i + 1) (applied v x) xs) e in (parts.0, never_full (i + 1) (applied v x) xs parts.1)

none_mapped : (f : ℕ → Declined) (o : Option ℕ) → option_map f o ≡ None → o ≡ None
none_mapped f None e = refl
none_mapped f (Some i) e = cc

pub fold_of : (v w : View Market Kind) (p : Played) (xs : List (List ℕ)) → w ≡ applied_all v xs → p ≡ outcome v xs → p.declined ≡ None → w ≡ unbounded v xs
fold_of v w p xs book played none = book ∙ unbounded_is_fold v xs (never_full 0 v xs (none_mapped _ (first_declined 0 v xs) (sym (ap (λ (x : Played). x.declined) played) ∙ none)))
