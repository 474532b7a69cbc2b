-- The steps of a store, on plain lists: `rows` of which the first `count` are in use.
use Rattle.std.proofs.Common.{◌≡◌, ℕ, ◌+◌, ◌<◌, ◌≤◌, Bool, true, false, cond, not, ◌&&◌, leb, List, ◌++◌, length, get_or, take, drop, set, is_some as option_is_some, Some, None, Ok, Err, Option, Result, sym, refl, ap, ◌∙◌, ⊎_elim, arith}
use lib.Seq.{take-set-lt}
use Rattle.std.proofs.lemmas.List.{length-take-le, get_or-take, get_or_default, take_at, drop_at, drop-set-lt}
use Rattle.std.proofs.lemmas.List.Edits.{length-insert}
use Rattle.std.proofs.lemmas.Bool.{cases_lt, lt-leb}
use Rattle.std.specs.List.{insert}
use Rattle.market.specs.Effects.{new_row, blank}
use Rattle.market.specs.Market.{ascends, has, lookup, upsert}
use Rattle.market.specs.declared.row.Row.{Row}
use Rattle.market.proofs.Orders.{apart_or_same}
use Rattle.store.specs.Places.{position, sought}
use Rattle.store.proofs.Positions.{position_in, lookup_at, lookup_miss, upsert_at, upsert_new}

-- ---- what a search tells

found_in : (o : Option Row) (p at : ℕ) → ◌≡◌ {A = Result ℕ ℕ} (Ok at) (cond (option_is_some o) (Ok p) (Err p)) → (option_is_some o ≡ true) × (at ≡ p)
found_in (Some x) p at e = (refl, cc)
found_in None p at e = cc

missed_in : (o : Option Row) (p at : ℕ) → ◌≡◌ {A = Result ℕ ℕ} (Err at) (cond (option_is_some o) (Ok p) (Err p)) → (o ≡ None) × (at ≡ p)
missed_in (Some x) p at e = cc
missed_in None p at e = (refl, cc)

not_none : (o : Option Row) → option_is_some o ≡ true → o ≡ None → ⊥
not_none o some none = let z : ◌≡◌ {A = Bool} true false = sym some ∙ ap option_is_some none in cc

-- the row of the symbol s stands at a place
pub record Found (s : List ℕ) (rs : List Row) (at : ℕ) : Type 0 where
  pub there : has s rs ≡ true
  pub here : at ≡ position s rs
  pub inside : at < length rs
  pub own : (get_or rs at blank).symbol ≡ s

pub found : (s : List ℕ) (rs : List Row) (at : ℕ) → ascends rs ≡ true → Ok at ≡ sought s rs → Found s rs at
found s rs at up e =
    let both = found_in (lookup s rs) (position s rs) at e in
    let inside : position s rs < length rs = ⊎_elim (λ lt. lt) (λ ge. absurd (not_none (lookup s rs) both.0 (lookup_miss s rs blank up (λ lt _. omega arith)))) (cases_lt (position s rs) (length rs)) in
    let own : (get_or rs (position s rs) blank).symbol ≡ s = ⊎_elim (λ e. e) (λ ne. absurd (not_none (lookup s rs) both.0 (lookup_miss s rs blank up (λ _ e. ne e)))) (apart_or_same (get_or rs (position s rs) blank).symbol s) in
    record { there = both.0; here = both.1; inside = omega arith; own = ap (λ i. (get_or rs i blank).symbol) both.1 ∙ own }

pub found_row : (s : List ℕ) (rs : List Row) (at : ℕ) → Found s rs at → lookup s rs ≡ Some (get_or rs at blank)
found_row s rs at f = lookup_at s rs blank (omega arith) (ap (λ i. (get_or rs i blank).symbol) (sym f.here) ∙ f.own) ∙ ap (λ i. Some (get_or rs i blank)) (sym f.here)

-- it has none, and would stand there
pub record Missed (s : List ℕ) (rs : List Row) (at : ℕ) : Type 0 where
  pub none : lookup s rs ≡ None
  pub here : at ≡ position s rs
  pub inside : at ≤ length rs

pub missed : (s : List ℕ) (rs : List Row) (at : ℕ) → Err at ≡ sought s rs → Missed s rs at
missed s rs at e =
    let both = missed_in (lookup s rs) (position s rs) at e in
    record { none = both.0; here = both.1; inside = omega (arith, position_in s rs) }

-- ---- setting something

-- zs is `rows` with f done to the row of the symbol s, which stands at a place
pub record SetsRow (s : List ℕ) (f : Row → Row) (rows zs : List Row) (count at : ℕ) : Type 0 where
  pub there : has s (take count rows) ≡ true
  pub inside : at < count
  pub used : take count zs ≡ upsert s f (take count rows)
  pub spare : drop count zs ≡ drop count rows

pub sets_row : (s : List ℕ) (f : Row → Row) (rows : List Row) (count at : ℕ) (d y : Row) → count ≤ length rows → ascends (take count rows) ≡ true → Ok at ≡ sought s (take count rows) → y ≡ f (get_or rows at d) → SetsRow s f rows (set rows at y) count at
sets_row s f rows count at d y within up e made =
    let R : List Row = take count rows in
    let there = found s R at up e in
    let inside : at < count = omega (arith, length-take-le count rows within) in
    let is : set rows at y ≡ set rows at (f (get_or rows at blank)) = ap (set rows at) (made ∙ ap f (get_or_default rows at d blank (omega arith))) in
    record {
      there = there.there;
      inside = inside;
      used =
          ap (take count) is
          ∙ take-set-lt count rows at (f (get_or rows at blank)) inside
          ∙ ap (λ r. set R at (f r)) (sym (get_or-take count rows at blank inside))
          ∙ ap (λ i. set R i (f (get_or R i blank))) there.here
          ∙ sym (upsert_at s f R blank (omega arith) (ap (λ i. (get_or R i blank).symbol) (sym there.here) ∙ there.own));
      spare = ap (drop count) is ∙ drop-set-lt count rows at (f (get_or rows at blank)) inside;
    }

-- zs is `rows` with f done to a new row of the symbol s, made at a place
pub record MakesRow (s : List ℕ) (f : Row → Row) (rows zs : List Row) (count : ℕ) : Type 0 where
  pub none : lookup s (take count rows) ≡ None
  pub used : take (count + 1) zs ≡ upsert s f (take count rows)
  pub spare : drop (count + 1) zs ≡ drop (count + 1) rows

pub makes_row : (s : List ℕ) (f : Row → Row) (rows zs : List Row) (count at : ℕ) (row : Row) → count ≤ length rows → Err at ≡ sought s (take count rows) → row ≡ f (new_row s) → zs ≡ insert (take count rows) at row ++ drop (count + 1) rows → MakesRow s f rows zs count
makes_row s f rows zs count at row within e made is =
    let R : List Row = take count rows in
    let there = missed s R at e in
    let long = length-take-le count rows within in
    let front : length (insert R at row) ≡ count + 1 = length-insert R at row there.inside ∙ ap (λ n. n + 1) long in
    record {
      none = there.none;
      used =
          ap (take (count + 1)) is
          ∙ take_at (insert R at row) (drop (count + 1) rows) (count + 1) front
          ∙ ap (insert R at) made
          ∙ ap (λ i. insert R i (f (new_row s))) there.here
          ∙ sym (upsert_new s f R there.none);
      spare = ap (drop (count + 1)) is ∙ drop_at (insert R at row) (drop (count + 1) rows) (count + 1) front;
    }

-- ---- whether each row is in use

pub not_full_found : (h : Bool) (a b : ℕ) → h ≡ true → (not h && leb a b) ≡ false
not_full_found true a b e = refl
not_full_found false a b e = grind arith

pub not_full_missed : (o : Option Row) (a b : ℕ) → o ≡ None → b < a → (not (option_is_some o) && leb a b) ≡ false
not_full_missed o a b e l = ap (λ (o : Option Row). not (option_is_some o) && leb a b) e ∙ lt-leb a b l
