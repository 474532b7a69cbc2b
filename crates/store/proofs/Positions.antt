-- The place of a symbol among rows that ascend, and what stands there.
use Rattle.std.proofs.Common.{◌≡◌, ℕ, zero, suc, ◌<◌, ◌≤◌, true, false, List, [], ◌∷◌, length, get_or, set, Some, None, is_some, cond, Option, Ok, Err, Less, Equal, Greater, inl, inr, sym, refl, ap, ◌∙◌, subst, arith}
use Rattle.std.proofs.lemmas.Bool.{cond-true, cond-false, cases_order}
use Rattle.std.proofs.lemmas.Bool.Decides.{nat_tests}
use Rattle.std.specs.Ordering.{is_lt}
use Rattle.std.specs.List.{insert}
use Rattle.market.specs.Effects.{new_row, blank}
use Rattle.market.specs.Market.{before, ascends, lookup, upsert}
use Rattle.market.specs.Symbols.{against, precedes}
use Rattle.market.specs.declared.row.Row.{Row}
use Rattle.market.proofs.Orders.{lower, level, higher, order, against_equal, against_chain, precedes_less, less_precedes, less_apart, higher_apart}
use Rattle.market.proofs.Rows.{up_below, up_at, up_above, look_at, look_on, look_none, rest_ascends, first_before, higher_before, behind_none}
use Rattle.std.specs.List.Sorted.{IsPartitionedBy, IsPartitionPoint}
use Rattle.store.specs.Places.{position, sought}

-- ---- one step

pos_below : (s : List ℕ) (r : Row) (rs : List Row) → against r.symbol s ≡ Less → position s (r ∷ rs) ≡ suc (position s rs)
unfolding position
pos_below s r rs h = cond-true (precedes r.symbol s) (suc (position s rs)) 0 (less_precedes r.symbol s h)

pos_first : (s : List ℕ) (r : Row) (rs : List Row) → precedes r.symbol s ≡ false → position s (r ∷ rs) ≡ 0
unfolding position
pos_first s r rs h = cond-false (precedes r.symbol s) (suc (position s rs)) 0 h

pos_none : (s : List ℕ) (at : ℕ) → at ≡ 0 → at ≡ position s []
unfolding position
pos_none s at e = e

pos_level : (s : List ℕ) (r : Row) (rs : List Row) → against r.symbol s ≡ Equal → position s (r ∷ rs) ≡ 0
pos_level s r rs h = pos_first s r rs (ap is_lt h)

pos_higher : (s : List ℕ) (r : Row) (rs : List Row) → against r.symbol s ≡ Greater → position s (r ∷ rs) ≡ 0
pos_higher s r rs h = pos_first s r rs (ap is_lt h)

-- ---- what one comparison tells of the place

pub position_in : (s : List ℕ) (rs : List Row) → position s rs ≤ length rs
unfolding position
position_in s [] = omega arith
position_in s (r ∷ rs) = let more = position_in s rs in grind (arith, nat_tests)

-- a symbol before the first row stands before each
before_each : (s : List ℕ) (rs : List Row) (m : ℕ) (d : Row) → before s rs ≡ true → ascends rs ≡ true → m < length rs → against s (get_or rs m d).symbol ≡ Less
before_each s [] m d b up h = absurd (omega arith)
before_each s (r ∷ rs) zero d b up h = precedes_less s r.symbol b
before_each s (r ∷ rs) (suc m) d b up h =
    against_chain s r.symbol (get_or rs m d).symbol (precedes_less s r.symbol b) (before_each r.symbol rs m d (first_before r rs up) (rest_ascends r rs up) (omega arith))

-- each row stands before those behind it
each_before : (rs : List Row) (i j : ℕ) (d : Row) → ascends rs ≡ true → i < j → j < length rs → against (get_or rs i d).symbol (get_or rs j d).symbol ≡ Less
each_before [] i j d up l h = absurd (omega arith)
each_before (r ∷ rs) i zero d up l h = absurd (omega arith)
each_before (r ∷ rs) zero (suc j) d up l h = before_each r.symbol rs j d (first_before r rs up) (rest_ascends r rs up) (omega arith)
each_before (r ∷ rs) (suc i) (suc j) d up l h = each_before rs i j d (rest_ascends r rs up) (omega arith) (omega arith)

-- ---- what stands at the place

pub lookup_at : (s : List ℕ) (rs : List Row) (d : Row) → position s rs < length rs → (get_or rs (position s rs) d).symbol ≡ s → lookup s rs ≡ Some (get_or rs (position s rs) d)
lookup_at s [] d h e = absurd (omega arith)
lookup_at s (r ∷ rs) d h e =
    let Goal : ℕ → Type 0 = λ p. p < length (r ∷ rs) → (get_or (r ∷ rs) p d).symbol ≡ s → lookup s (r ∷ rs) ≡ Some (get_or (r ∷ rs) p d) in
    let step : Goal (position s (r ∷ rs)) =
    elim (order r.symbol s) [
      | lower l ↦ subst Goal (sym (pos_below s r rs l)) (λ h e. look_on s r rs (less_apart r.symbol s l) ∙ lookup_at s rs d (omega arith) e)
      | level l ↦ subst Goal (sym (pos_level s r rs l)) (λ h e. look_at s r rs e)
      | higher l ↦ subst Goal (sym (pos_higher s r rs l)) (λ h e. look_at s r rs e)
    ] in
    step h e

pub lookup_miss : (s : List ℕ) (rs : List Row) (d : Row) → ascends rs ≡ true → (position s rs < length rs → (get_or rs (position s rs) d).symbol ≡ s → ⊥) → lookup s rs ≡ None
lookup_miss s [] d up out = look_none s
lookup_miss s (r ∷ rs) d up out =
    let Goal : ℕ → Type 0 = λ p. (p < length (r ∷ rs) → (get_or (r ∷ rs) p d).symbol ≡ s → ⊥) → lookup s (r ∷ rs) ≡ None in
    let step : Goal (position s (r ∷ rs)) =
    elim (order r.symbol s) [
      | lower l ↦ subst Goal (sym (pos_below s r rs l)) (λ out. look_on s r rs (less_apart r.symbol s l) ∙ lookup_miss s rs d (rest_ascends r rs up) (λ h e. out (omega arith) e))
      | level l ↦ subst Goal (sym (pos_level s r rs l)) (λ out. absurd (out (omega arith) (against_equal r.symbol s l)))
      | higher l ↦ subst Goal (sym (pos_higher s r rs l)) (λ out. behind_none s (r ∷ rs) (higher_before s r rs l) up)
    ] in
    step out

-- ---- setting something there

pub upsert_at : (s : List ℕ) (f : Row → Row) (rs : List Row) (d : Row) → position s rs < length rs → (get_or rs (position s rs) d).symbol ≡ s → upsert s f rs ≡ set rs (position s rs) (f (get_or rs (position s rs) d))
upsert_at s f [] d h e = absurd (omega arith)
upsert_at s f (r ∷ rs) d h e =
    let Goal : ℕ → Type 0 = λ p. p < length (r ∷ rs) → (get_or (r ∷ rs) p d).symbol ≡ s → upsert s f (r ∷ rs) ≡ set (r ∷ rs) p (f (get_or (r ∷ rs) p d)) in
    let step : Goal (position s (r ∷ rs)) =
    elim (order r.symbol s) [
      | lower l ↦ subst Goal (sym (pos_below s r rs l)) (λ h e. up_below s f r rs l ∙ ap (λ xs. r ∷ xs) (upsert_at s f rs d (omega arith) e))
      | level l ↦ subst Goal (sym (pos_level s r rs l)) (λ h e. up_at s f r rs l)
      | higher l ↦ subst Goal (sym (pos_higher s r rs l)) (λ h e. absurd (higher_apart r.symbol s l e))
    ] in
    step h e

pub upsert_new : (s : List ℕ) (f : Row → Row) (rs : List Row) → lookup s rs ≡ None → upsert s f rs ≡ insert rs (position s rs) (f (new_row s))
unfolding position upsert
upsert_new s f [] none = refl
upsert_new s f (r ∷ rs) none =
    let Goal : ℕ → Type 0 = λ p. upsert s f (r ∷ rs) ≡ insert (r ∷ rs) p (f (new_row s)) in
    elim (order r.symbol s) [
      | lower l ↦ subst Goal (sym (pos_below s r rs l)) (up_below s f r rs l ∙ ap (λ xs. r ∷ xs) (upsert_new s f rs (sym (look_on s r rs (less_apart r.symbol s l)) ∙ none)))
      | level l ↦
          let z : ◌≡◌ {A = Option Row} (Some r) None = sym (look_at s r rs (against_equal r.symbol s l)) ∙ none in
          cc
      | higher l ↦ subst Goal (sym (pos_higher s r rs l)) (up_above s f r rs l)
    ]

-- ---- a search

-- or else lies between those that stand before it and the others
split_place : (s : List ℕ) (rs : List Row) (at : ℕ) → at ≤ length rs → ((i : ℕ) → i < at → precedes (get_or rs i blank).symbol s ≡ true) → ((i : ℕ) → at ≤ i → i < length rs → precedes (get_or rs i blank).symbol s ≡ false) → at ≡ position s rs
split_place s [] at le low high = pos_none s at (omega arith)
split_place s (r ∷ rs) zero le low high = sym (pos_first s r rs (high 0 (omega arith) (omega arith)))
split_place s (r ∷ rs) (suc at) le low high =
    ap suc (split_place s rs at (omega arith) (λ i lt. low (suc i) (omega arith)) (λ i ge lt. high (suc i) (omega arith) (omega arith)))
    ∙ sym (pos_below s r rs (precedes_less r.symbol s (low 0 (omega arith))))

-- no row behind one that does not stand before the symbol does
pub parted : (s : List ℕ) (rs : List Row) → ascends rs ≡ true → IsPartitionedBy (λ r. precedes r.symbol s) rs
parted s rs up i j d le h before =
    elim (cases_order i j) [
      | inl e ↦ rw e before
      | inr (inl l) ↦ less_precedes _ s (against_chain _ _ s (each_before rs i j d up l h) (precedes_less _ s before))
      | inr (inr l) ↦ absurd (omega arith)
    ]

pub place_at : (s : List ℕ) (rs : List Row) (at : ℕ) → at ≤ length rs → IsPartitionPoint (λ r. precedes r.symbol s ≡ true) (λ r. precedes r.symbol s ≡ false) rs at → at ≡ position s rs
place_at s rs at le split = split_place s rs at le (λ i lt. split.0 i blank (omega arith) lt) (λ i ge lt. split.1 i blank ge lt)

sought_is : (s : List ℕ) (rs : List Row) (o : Option Row) → lookup s rs ≡ o → sought s rs ≡ cond (is_some o) (Ok (position s rs)) (Err (position s rs))
sought_is s rs o e = ap (λ (o : Option Row). cond (is_some o) (Ok (position s rs)) (Err (position s rs))) e

-- the row that stands at the place is the symbol's
pub sought_here : (s : List ℕ) (rs : List Row) (at : ℕ) (r : Row) → at ≡ position s rs → at < length rs → r ≡ get_or rs at r → r.symbol ≡ s → Ok at ≡ sought s rs
sought_here s rs at r is lt read own =
    let there = lookup_at s rs r (omega arith) (ap (λ i. (get_or rs i r).symbol) (sym is) ∙ ap (λ (q : Row). q.symbol) (sym read) ∙ own) in
    ap Ok is ∙ sym (sought_is s rs _ there)

-- it is not, or there is none
pub sought_other : (s : List ℕ) (rs : List Row) (at : ℕ) → ascends rs ≡ true → at ≡ position s rs → ((d : Row) → at < length rs → (get_or rs at d).symbol ≡ s → ⊥) → Err at ≡ sought s rs
sought_other s rs at up is other =
    let none = lookup_miss s rs blank up (λ lt e. other blank (omega arith) (ap (λ i. (get_or rs i blank).symbol) is ∙ e)) in
    ap Err is ∙ sym (sought_is s rs None none)
