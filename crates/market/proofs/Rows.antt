-- What setting something in the row of a symbol does to a list of rows.
use Rattle.std.proofs.Common.{◌≡◌, ℕ, true, ◌&&◌, List, [], ◌∷◌, map, Some, None, Less, Equal, Greater, unwrap_or, sym, refl, ap, ◌∙◌}
use Rattle.std.proofs.lemmas.Bool.{and_parts, and_from, cond-true, cond-false}
use Rattle.std.specs.Ordering.{ordering_reverse, match_ordering as by_order}
use Rattle.market.specs.Effects.{new_row}
use Rattle.market.specs.Laws.{without}
use Rattle.market.specs.Market.{before, ascends, lookup, upsert}
use Rattle.market.specs.Symbols.{against, precedes, same}
use Rattle.market.specs.declared.row.Row.{Row}
use Rattle.market.proofs.Orders.{lower, level, higher, order, against_equal, against_chain, against_reversed, precedes_less, less_precedes, less_apart, same_from, same_not}

-- f changes no symbol
abbrev pub Keeps : (Row → Row) → Type 0
Keeps f = (r : Row) → (f r).symbol ≡ r.symbol

-- ---- one step

pub up_below : (s : List ℕ) (f : Row → Row) (r : Row) (rs : List Row) → against r.symbol s ≡ Less → upsert s f (r ∷ rs) ≡ r ∷ upsert s f rs
unfolding upsert
up_below s f r rs e = ap (λ o. by_order o (r ∷ upsert s f rs) (f r ∷ rs) (f (new_row s) ∷ (r ∷ rs))) e

pub up_at : (s : List ℕ) (f : Row → Row) (r : Row) (rs : List Row) → against r.symbol s ≡ Equal → upsert s f (r ∷ rs) ≡ f r ∷ rs
unfolding upsert
up_at s f r rs e = ap (λ o. by_order o (r ∷ upsert s f rs) (f r ∷ rs) (f (new_row s) ∷ (r ∷ rs))) e

pub up_above : (s : List ℕ) (f : Row → Row) (r : Row) (rs : List Row) → against r.symbol s ≡ Greater → upsert s f (r ∷ rs) ≡ f (new_row s) ∷ (r ∷ rs)
unfolding upsert
up_above s f r rs e = ap (λ o. by_order o (r ∷ upsert s f rs) (f r ∷ rs) (f (new_row s) ∷ (r ∷ rs))) e

pub look_at : (s : List ℕ) (r : Row) (rs : List Row) → r.symbol ≡ s → lookup s (r ∷ rs) ≡ Some r
unfolding lookup
look_at s r rs e = cond-true (same r.symbol s) (Some r) (lookup s rs) (same_from r.symbol s e)

pub look_on : (s : List ℕ) (r : Row) (rs : List Row) → (r.symbol ≡ s → ⊥) → lookup s (r ∷ rs) ≡ lookup s rs
unfolding lookup
look_on s r rs ne = cond-false (same r.symbol s) (Some r) (lookup s rs) (same_not r.symbol s ne)

pub look_none : (s : List ℕ) → lookup s [] ≡ None
unfolding lookup
look_none s = refl

drop_at : (s : List ℕ) (r : Row) (rs : List Row) → r.symbol ≡ s → without s (r ∷ rs) ≡ without s rs
unfolding without
drop_at s r rs e = cond-true (same r.symbol s) (without s rs) (r ∷ without s rs) (same_from r.symbol s e)

keep_on : (s : List ℕ) (r : Row) (rs : List Row) → (r.symbol ≡ s → ⊥) → without s (r ∷ rs) ≡ r ∷ without s rs
unfolding without
keep_on s r rs ne = cond-false (same r.symbol s) (without s rs) (r ∷ without s rs) (same_not r.symbol s ne)

-- ---- the order

pub rest_ascends : (r : Row) (rs : List Row) → ascends (r ∷ rs) ≡ true → ascends rs ≡ true
unfolding ascends
rest_ascends r rs up = (and_parts (before r.symbol rs) (ascends rs) up).1

pub first_before : (r : Row) (rs : List Row) → ascends (r ∷ rs) ≡ true → before r.symbol rs ≡ true
unfolding ascends
first_before r rs up = (and_parts (before r.symbol rs) (ascends rs) up).0

before_chain : (s k : List ℕ) (rs : List Row) → against s k ≡ Less → before k rs ≡ true → before s rs ≡ true
before_chain s k [] e b = refl
before_chain s k (r ∷ rs) e b = less_precedes s r.symbol (against_chain s k r.symbol e (precedes_less k r.symbol b))

before_map : (f : Row → Row) → Keeps f → (s : List ℕ) (rs : List Row) → before s (map f rs) ≡ before s rs
before_map f kept s [] = refl
before_map f kept s (r ∷ rs) = ap (λ t. precedes s t) (kept r)

pub ascends_map : (f : Row → Row) → Keeps f → (rs : List Row) → ascends (map f rs) ≡ ascends rs
unfolding ascends
ascends_map f kept [] = refl
ascends_map f kept (r ∷ rs) =
    ap (λ s. before s (map f rs) && ascends (map f rs)) (kept r)
    ∙ ap (λ b. b && ascends (map f rs)) (before_map f kept r.symbol rs)
    ∙ ap (λ b. before r.symbol rs && b) (ascends_map f kept rs)

before_upsert : (s : List ℕ) (f : Row → Row) → Keeps f → (k : List ℕ) (rs : List Row) → against k s ≡ Less → before k rs ≡ true → before k (upsert s f rs) ≡ true
unfolding upsert
before_upsert s f kept k [] e b = ap (λ t. precedes k t) (kept (new_row s)) ∙ less_precedes k s e
before_upsert s f kept k (r ∷ rs) e b =
    elim (order r.symbol s) [
      | lower h ↦ ap (before k) (up_below s f r rs h) ∙ b
      | level h ↦ ap (before k) (up_at s f r rs h) ∙ ap (λ t. precedes k t) (kept r) ∙ b
      | higher h ↦ ap (before k) (up_above s f r rs h) ∙ ap (λ t. precedes k t) (kept (new_row s)) ∙ less_precedes k s e
    ]

pub ascends_upsert : (s : List ℕ) (f : Row → Row) → Keeps f → (rs : List Row) → ascends rs ≡ true → ascends (upsert s f rs) ≡ true
unfolding upsert ascends
ascends_upsert s f kept [] up = refl
ascends_upsert s f kept (r ∷ rs) up =
    let low = first_before r rs up in
    let rest = rest_ascends r rs up in
    elim (order r.symbol s) [
      | lower h ↦ ap ascends (up_below s f r rs h) ∙ and_from _ _ (before_upsert s f kept r.symbol rs h low) (ascends_upsert s f kept rs rest)
      | level h ↦ ap ascends (up_at s f r rs h) ∙ and_from _ _ (ap (λ t. before t rs) (kept r) ∙ low) rest
      | higher h ↦ ap ascends (up_above s f r rs h) ∙ and_from _ _ (ap (λ t. precedes t r.symbol) (kept (new_row s)) ∙ less_precedes s r.symbol (against_reversed r.symbol s ∙ ap ordering_reverse h)) up
    ]

-- ---- what is found

-- before the first row there is none
pub behind_none : (s : List ℕ) (rs : List Row) → before s rs ≡ true → ascends rs ≡ true → lookup s rs ≡ None
behind_none s [] b up = look_none s
behind_none s (r ∷ rs) b up =
    let less = precedes_less s r.symbol b in
    look_on s r rs (λ e. less_apart s r.symbol less (sym e)) ∙ behind_none s rs (before_chain s r.symbol rs less (first_before r rs up)) (rest_ascends r rs up)

-- nor is there one of the symbol of the first row behind it
pub once : (r : Row) (rs : List Row) → ascends (r ∷ rs) ≡ true → lookup r.symbol rs ≡ None
once r rs up = behind_none r.symbol rs (first_before r rs up) (rest_ascends r rs up)

pub higher_before : (s : List ℕ) (r : Row) (rs : List Row) → against r.symbol s ≡ Greater → before s (r ∷ rs) ≡ true
higher_before s r rs h = less_precedes s r.symbol (against_reversed r.symbol s ∙ ap ordering_reverse h)

pub lookup_own : (s : List ℕ) (f : Row → Row) → Keeps f → (rs : List Row) → ascends rs ≡ true → lookup s (upsert s f rs) ≡ Some (f (unwrap_or (lookup s rs) (new_row s)))
unfolding upsert
lookup_own s f kept [] up = look_at s (f (new_row s)) [] (kept (new_row s)) ∙ ap (λ o. Some (f (unwrap_or o (new_row s)))) (sym (look_none s))
lookup_own s f kept (r ∷ rs) up =
    elim (order r.symbol s) [
      | lower h ↦
          let apart : r.symbol ≡ s → ⊥ = λ e. less_apart r.symbol s h e in
          ap (lookup s) (up_below s f r rs h) ∙ look_on s r (upsert s f rs) apart ∙ lookup_own s f kept rs (rest_ascends r rs up)
          ∙ ap (λ o. Some (f (unwrap_or o (new_row s)))) (sym (look_on s r rs apart))
      | level h ↦
          let e = against_equal r.symbol s h in
          ap (lookup s) (up_at s f r rs h) ∙ look_at s (f r) rs (kept r ∙ e) ∙ ap (λ o. Some (f (unwrap_or o (new_row s)))) (sym (look_at s r rs e))
      | higher h ↦
          ap (lookup s) (up_above s f r rs h) ∙ look_at s (f (new_row s)) (r ∷ rs) (kept (new_row s))
          ∙ ap (λ o. Some (f (unwrap_or o (new_row s)))) (sym (behind_none s (r ∷ rs) (higher_before s r rs h) up))
    ]

-- the other rows stay
pub without_upsert : (s : List ℕ) (f : Row → Row) → Keeps f → (rs : List Row) → without s (upsert s f rs) ≡ without s rs
unfolding upsert
without_upsert s f kept [] = drop_at s (f (new_row s)) [] (kept (new_row s))
without_upsert s f kept (r ∷ rs) =
    elim (order r.symbol s) [
      | lower h ↦
          let apart : r.symbol ≡ s → ⊥ = λ e. less_apart r.symbol s h e in
          ap (without s) (up_below s f r rs h) ∙ keep_on s r (upsert s f rs) apart ∙ ap (λ xs. r ∷ xs) (without_upsert s f kept rs) ∙ sym (keep_on s r rs apart)
      | level h ↦
          let e = against_equal r.symbol s h in
          ap (without s) (up_at s f r rs h) ∙ drop_at s (f r) rs (kept r ∙ e) ∙ sym (drop_at s r rs e)
      | higher h ↦ ap (without s) (up_above s f r rs h) ∙ drop_at s (f (new_row s)) (r ∷ rs) (kept (new_row s))
    ]
