-- The laws of specs/Laws.
use Rattle.std.proofs.Common.{◌≡◌, ℕ, zero, suc, Bool, true, false, cond, not, ◌&&◌, leb, List, [], ◌∷◌, length, Some, None, Option, sym, refl, ap, ◌∙◌, subst, ⊎_elim}
use Rattle.std.proofs.lemmas.Bool.{and_right, and_left, cond-true, cond-false}
use Rattle.std.specs.List.{slice_get}
use Rattle.market.specs.Effects.{Change, quotes, settlement, limits, definition, changed, cleared, Effect, nothing, clock, clear, row, edited}
use Rattle.market.specs.Laws.{RowsStayAscending, Touches, nothing_touched, clock_touched, quotes_touched, row_touched, TouchesOneThing, BrokenDoesNothing, NothingChangesNothing, ClockIsSet, ClearResetsAll, OwnRowIsSet, UnfollowedChangesNothing, Found, FindsExactly, KnownAlwaysFits, UnboundedIsFold}
use Rattle.market.specs.Market.{Market, Kind, View, ascends, lookup, upsert, effect_of, heard, with_rows, acted, short, after, lacks, full_for, with_market, applied, after_all, applied_all, unbounded}
use Rattle.market.specs.declared.row.Row.{Row}
use Rattle.market.proofs.Orders.{apart_or_same}
use Rattle.market.proofs.Rows.{Keeps, ascends_map, ascends_upsert, rest_ascends, look_at, look_on, look_none, lookup_own, once, without_upsert}

-- no change changes a symbol
pub changed_keeps : (c : Change) → Keeps (changed c)
changed_keeps (quotes f) r = refl
changed_keeps (settlement x) r = refl
changed_keeps (limits x) r = refl
changed_keeps (definition x) r = refl

-- nor does any effect
pub edited_keeps : (e : Effect) → Keeps (edited e)
edited_keeps nothing r = refl
edited_keeps (clock f) r = refl
edited_keeps clear r = refl
edited_keeps (row s c) r = changed_keeps c r

-- ---- order

acted_ascends : (follows : List ℕ → Bool) (e : Effect) (m : Market) → ascends m.rows ≡ true → ascends (acted follows e m).rows ≡ true
acted_ascends follows nothing m up = up
acted_ascends follows (clock f) m up = up
acted_ascends follows clear m up = ascends_map cleared (edited_keeps clear) m.rows ∙ up
acted_ascends follows (row s c) m up =
    elim (follows s) as (λ b. ascends (cond b (with_rows (upsert s (changed c) m.rows) m) m).rows ≡ true)
    [ true ↦ ascends_upsert s (changed c) (changed_keeps c) m.rows up | false ↦ up ]

pub rows_stay_ascending : RowsStayAscending
unfolding after
rows_stay_ascending follows x m up = acted_ascends follows (heard x) m up

-- ---- one thing

acted_touches : (follows : List ℕ → Bool) (x : List ℕ) (e : Effect) (m : Market) → heard x ≡ e → Touches x m (acted follows e m)
acted_touches follows x nothing m is = nothing_touched refl
acted_touches follows x (clock f) m is = clock_touched f is refl
acted_touches follows x clear m is = quotes_touched is refl refl
acted_touches follows x (row s c) m is =
    elim (follows s) as (λ b. Touches x m (cond b (with_rows (upsert s (changed c) m.rows) m) m))
    [ true ↦ row_touched s c is refl (without_upsert s (changed c) (changed_keeps c) m.rows) | false ↦ nothing_touched refl ]

pub touches_one_thing : TouchesOneThing
unfolding after
touches_one_thing follows x m = acted_touches follows x (heard x) m refl

-- ---- what is set

after_is : (follows : List ℕ → Bool) (x : List ℕ) (m : Market) (e : Effect) → heard x ≡ e → after follows x m ≡ acted follows e m
unfolding after
after_is follows x m e is = ap (λ d. acted follows d m) is

lacks_is : (k : Kind) (x : List ℕ) (m : Market) (e : Effect) → heard x ≡ e → lacks k x m ≡ short k e m
unfolding lacks
lacks_is k x m e is = ap (λ d. short k d m) is

pub broken_does_nothing : BrokenDoesNothing
unfolding heard
broken_does_nothing x e is = ap effect_of is

pub nothing_changes_nothing : NothingChangesNothing
nothing_changes_nothing x m is k = (after_is k.follows x m nothing is, lacks_is k x m nothing is)

pub clock_is_set : ClockIsSet
clock_is_set x m f is k = (after_is k.follows x m (clock f) is, lacks_is k x m (clock f) is)

pub clear_resets_all : ClearResetsAll
clear_resets_all x m is k = (after_is k.follows x m clear is, lacks_is k x m clear is)

pub own_row_is_set : OwnRowIsSet
own_row_is_set follows x m s c is yes-follows up =
    ap (λ (n : Market). lookup s n.rows) (after_is follows x m (row s c) is ∙ cond-true (follows s) (with_rows (upsert s (changed c) m.rows) m) m yes-follows)
    ∙ lookup_own s (changed c) (changed_keeps c) m.rows up

pub unfollowed_changes_nothing : UnfollowedChangesNothing
unfollowed_changes_nothing k x m s c is out =
    (after_is k.follows x m (row s c) is ∙ cond-false (k.follows s) (with_rows (upsert s (changed c) m.rows) m) m out, lacks_is k x m (row s c) is ∙ and_left (k.follows s) _ out)

pub known_always_fits : KnownAlwaysFits
known_always_fits k x m s c is there =
    lacks_is k x m (row s c) is ∙ and_right (k.follows s) _ (ap (λ b. not b && leb k.capacity (length m.rows)) there)

-- ---- what is found

-- a row in front of others, of another symbol
past : (s : List ℕ) (r : Row) (rs : List Row) (o : Option Row) → (r.symbol ≡ s → ⊥) → Found s rs o → Found s (r ∷ rs) o
past s r rs None ne f = nobody
  where
    nobody : (i : ℕ) (q : Row) → slice_get (r ∷ rs) i ≡ Some q → q.symbol ≡ s → ⊥
    nobody zero q is e = ne (let same : r.symbol ≡ q.symbol = cc in same ∙ e)
    nobody (suc i) q is e = f i q is e
past s r rs (Some x) ne f =
    let at = f.1 in
    (f.0, (suc at.0, record { is = at.1.is; alone = alone at.0 at.1.alone }))
  where
    alone : (i : ℕ) → ((j : ℕ) (q : Row) → slice_get rs j ≡ Some q → q.symbol ≡ s → j ≡ i) → (j : ℕ) (q : Row) → slice_get (r ∷ rs) j ≡ Some q → q.symbol ≡ s → j ≡ suc i
    alone i one zero q is e = absurd (ne (let same : r.symbol ≡ q.symbol = cc in same ∙ e))
    alone i one (suc j) q is e = ap suc (one j q is e)

-- a row of the symbol, in front of others that stand behind it
first : (s : List ℕ) (r : Row) (rs : List Row) → r.symbol ≡ s → Found s rs None → Found s (r ∷ rs) (Some r)
first s r rs e none = (e, (0, record { is = refl; alone = alone }))
  where
    alone : (j : ℕ) (q : Row) → slice_get (r ∷ rs) j ≡ Some q → q.symbol ≡ s → j ≡ 0
    alone zero q is h = refl
    alone (suc j) q is h = absurd (none j q is h)

pub finds_exactly : FindsExactly
finds_exactly s [] up = subst (Found s []) (sym (look_none s)) (λ i q is e. cc)
finds_exactly s (r ∷ rs) up =
    let more = finds_exactly s rs (rest_ascends r rs up) in
    ⊎_elim
    (λ (e : r.symbol ≡ s).
    let none : lookup s rs ≡ None = ap (λ t. lookup t rs) (sym e) ∙ once r rs up in
    subst (Found s (r ∷ rs)) (sym (look_at s r rs e)) (first s r rs e (subst (Found s rs) none more)))
    (λ (ne : r.symbol ≡ s → ⊥). subst (Found s (r ∷ rs)) (sym (look_on s r rs ne)) (past s r rs (lookup s rs) ne more))
    (apart_or_same r.symbol s)

-- ---- many messages

pub unbounded_is_fold : UnboundedIsFold
unfolding applied_all after_all
unbounded_is_fold v [] never = refl
unbounded_is_fold v (x ∷ xs) never =
    let one : applied v x ≡ with_market v (after v.kind.follows x v.market) = cond-false (full_for v x) v (with_market v (after v.kind.follows x v.market)) never.0 in
    unbounded_is_fold (applied v x) xs never.1 ∙ ap (λ (w : View Market Kind). unbounded w xs) one
