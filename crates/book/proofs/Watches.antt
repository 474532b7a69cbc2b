-- The steps of a watch, whose row is there or not.
use Rattle.std.proofs.Common.{◌≡◌, ℕ, Bool, true, false, cond, not, ◌&&◌, leb, List, [], ◌∷◌, map, length, is_some, Some, None, Decides, Option, option_to_list, unwrap_or, sym, refl, ap, ◌∙◌}
use Rattle.std.specs.Option.{ForSome}
use Rattle.std.proofs.lemmas.Bool.{and_left, and_right, cond-true, cond-false, not-true, both_ways}
use Rattle.market.specs.Effects.{Effect, Aim, at_nothing, at_clock, at_every_row, at_row, aim, ticked, edited, new_row}
use Rattle.market.specs.Market.{Market, Kind, View, has, lookup, upsert, heard, full_for, with_market, with_rows}
use Rattle.market.specs.Symbols.{against, same}
use Rattle.market.specs.declared.clock.Clock.{Clock}
use Rattle.market.specs.declared.row.Row.{Row}
use Rattle.market.proofs.Applied.{viewed, act, short_at, Outcome, by_aim_fits}
use Rattle.market.proofs.Orders.{against_self, same_from, same_is, same_not}
use Rattle.market.proofs.Rows.{up_at, look_at, look_on, look_none}
use Rattle.book.specs.Kinds.{watch_kind}
use Rattle.book.specs.Laws.{WatchAlwaysFits}
use Rattle.book.specs.Views.{watch_view}
use Rattle.book.specs.declared.watch.Watch.{Watch}

-- ---- never full

row_fits : (s k : List ℕ) (o : Option Row) → ForSome o (λ r. r.symbol ≡ k) → (same k s && (not (has s (option_to_list o)) && leb 1 (length (option_to_list o)))) ≡ false
row_fits s k None own = and_right (same k s) _ (and_right (not (has s [])) (leb 1 0) refl)
row_fits s k (Some r) own = by (same k s) refl
  where
    by : (b : Bool) → same k s ≡ b → (same k s && (not (has s (r ∷ [])) && leb 1 1)) ≡ false
    by true e = and_right (same k s) _ (ap (λ (o : Option Row). not (is_some o) && leb 1 1) (look_at s r [] (own r refl ∙ same_is k s e)))
    by false e = and_left (same k s) _ e

pub never_short : (a : Aim) (w : Watch) → short_at (watch_kind w.symbol) a (watch_view w).market ≡ false
never_short at_nothing w = refl
never_short at_clock w = refl
never_short at_every_row w = refl
never_short (at_row s) w = row_fits s w.symbol w.row w.own

pub watch_always_fits : WatchAlwaysFits
watch_always_fits w x =
    let v : View Market Kind = watch_view w in
    let o = by_aim_fits v x (heard x) (aim (heard x)) refl refl (never_short (aim (heard x)) w) in
    not-true (full_for v x) (sym o.answer)

-- ---- what a watch shows

-- its view, by rows and the symbol that it watches
abbrev seen : Clock → List Row → List ℕ → View Market Kind
seen c rs s = viewed c rs (watch_kind s)

-- it finds the row of its own symbol, and no other
pub find_is : (s k : List ℕ) (o : Option Row) (b : Bool) → ForSome o (λ r. r.symbol ≡ k) → Decides b (k ≡ s) → lookup s (option_to_list o) ≡ cond b o None
find_is s k None true own is = look_none s
find_is s k None false own is = look_none s
find_is s k (Some r) true own is = look_at s r [] (own r refl ∙ is.0 refl)
find_is s k (Some r) false own is = look_on s r [] (λ e. both_ways false refl (is.1 (sym (own r refl) ∙ e))) ∙ look_none s

-- ---- what a message makes of it

upsert_own : (s k : List ℕ) (f : Row → Row) (o : Option Row) → ForSome o (λ r. r.symbol ≡ k) → k ≡ s → f (unwrap_or o (new_row s)) ∷ [] ≡ upsert s f (option_to_list o)
unfolding upsert
upsert_own s k f None own e = refl
upsert_own s k f (Some r) own e = sym (up_at s f r [] (ap (against r.symbol) (sym (own r refl ∙ e)) ∙ against_self r.symbol))

-- a watch w, bytes x and what they do, e
module _ (w : Watch) (x : List ℕ) (e : Effect) (is : e ≡ heard x) where
  fits : (a : Aim) → a ≡ aim e → Outcome (watch_view w) x true (with_market (watch_view w) (act (watch_kind w.symbol).follows a e (watch_view w).market))
  fits a to = by_aim_fits (watch_view w) x e a is to (never_short a w)

  pub on_nothing : at_nothing ≡ aim e → Outcome (watch_view w) x true (watch_view w)
  on_nothing to = fits at_nothing to

  pub on_clock : (c : Clock) → at_clock ≡ aim e → c ≡ ticked e w.clock → Outcome (watch_view w) x true (seen c (option_to_list w.row) w.symbol)
  on_clock c to tick =
      let o = fits at_clock to in
      record { answer = o.answer; effect = ap (λ k. seen k (option_to_list w.row) w.symbol) tick ∙ o.effect }

  pub on_every_row : (o : Option Row) → at_every_row ≡ aim e → option_to_list o ≡ map (edited e) (option_to_list w.row) → Outcome (watch_view w) x true (seen w.clock (option_to_list o) w.symbol)
  on_every_row o to edit =
      let out = fits at_every_row to in
      record { answer = out.answer; effect = ap (λ rs. seen w.clock rs w.symbol) edit ∙ out.effect }

  pub on_own_row : (s : List ℕ) (row : Option Row) (r : Row) → at_row s ≡ aim e → w.symbol ≡ s → w.row ≡ row → r ≡ edited e (unwrap_or row (new_row s)) → Outcome (watch_view w) x true (seen w.clock (r ∷ []) w.symbol)
  on_own_row s row r to own is edit =
      let o = fits (at_row s) to in
      let m = (watch_view w).market in
      let set : r ≡ edited e (unwrap_or w.row (new_row s)) = rw is edit in
      record {
        answer = o.answer;
        effect =
            ap (λ rs. seen w.clock rs w.symbol) (ap (λ q. q ∷ []) set ∙ upsert_own s w.symbol (edited e) w.row w.own own)
            ∙ ap (with_market (watch_view w)) (sym (cond-true (same w.symbol s) (with_rows (upsert s (edited e) m.rows) m) m (same_from w.symbol s own)))
            ∙ o.effect;
      }

  pub on_other_row : (s : List ℕ) → at_row s ≡ aim e → (w.symbol ≡ s → ⊥) → Outcome (watch_view w) x true (watch_view w)
  on_other_row s to other =
      let o = fits (at_row s) to in
      let m = (watch_view w).market in
      record {
        answer = o.answer;
        effect = ap (with_market (watch_view w)) (sym (cond-false (same w.symbol s) (with_rows (upsert s (edited e) m.rows) m) m (same_not w.symbol s other))) ∙ o.effect;
      }

-- ---- two watches

pub same_follows : (a b : List ℕ) (c : Bool) → Decides c (a ≡ b) → Decides c (◌≡◌ {A = List ℕ → Bool} (λ s. same a s) (λ s. same b s))
same_follows a b c is = (
  λ yes. ap (λ t s. same t s) (is.0 yes),
  λ e. let at : same a a ≡ same b a = ap (λ f. f a) e in is.1 (sym (same_is b a (sym at ∙ same_from a a refl))),
)
