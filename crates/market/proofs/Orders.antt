-- The order of symbols is a strict total order, on lists of bytes of any length.
use Rattle.std.proofs.Common.{◌≡◌, ℕ, true, false, ◌⊎◌, List, Ordering, Less, Equal, Greater, sym, refl, ap, ◌∙◌, inl, inr}
use Rattle.std.proofs.lemmas.Map.Lookups.{exact_bytes}
use Rattle.std.proofs.lemmas.Cmp.{nat_list_cmp_total}
use Rattle.std.specs.Cmp.{Equal-is}
use Rattle.std.specs.Ordering.{is_eq, is_lt, ordering_reverse}
use Rattle.market.specs.Symbols.{against, precedes, same}

-- ---- the laws of the order

pub against_reversed : (s t : List ℕ) → against t s ≡ ordering_reverse (against s t)
unfolding against
against_reversed s t = nat_list_cmp_total.antisymm t s

pub against_chain : (s t u : List ℕ) → against s t ≡ Less → against t u ≡ Less → against s u ≡ Less
unfolding against
against_chain s t u p q = nat_list_cmp_total.trans s t u p q

pub against_equal : (s t : List ℕ) → against s t ≡ Equal → s ≡ t
unfolding against
against_equal s t e = exact_bytes s t e

own_reverse : (o : Ordering) → o ≡ ordering_reverse o → o ≡ Equal
own_reverse Less e = cc
own_reverse Equal e = refl
own_reverse Greater e = cc

pub against_self : (s : List ℕ) → against s s ≡ Equal
against_self s = own_reverse (against s s) (against_reversed s s)

-- one of three holds
pub data Order (s t : List ℕ) : Type 0 where
  lower : against s t ≡ Less → Order s t
  level : against s t ≡ Equal → Order s t
  higher : against s t ≡ Greater → Order s t

pub order : (s t : List ℕ) → Order s t
order s t =
    let which : (o : Ordering) → against s t ≡ o → Order s t =
    λ o. elim o as (λ o. against s t ≡ o → Order s t) [ Less ↦ λ e. lower e | Equal ↦ λ e. level e | Greater ↦ λ e. higher e ] in
    which (against s t) refl

pub less_apart : (s t : List ℕ) → against s t ≡ Less → s ≡ t → ⊥
less_apart s t h e = let own : against s t ≡ Equal = ap (against s) (sym e) ∙ against_self s in cc

pub higher_apart : (s t : List ℕ) → against s t ≡ Greater → s ≡ t → ⊥
higher_apart s t h e = let own : against s t ≡ Equal = ap (against s) (sym e) ∙ against_self s in cc

pub apart_or_same : (s t : List ℕ) → (s ≡ t) ⊎ (s ≡ t → ⊥)
apart_or_same s t =
    elim (order s t) [
      | lower h ↦ inr (λ e. less_apart s t h e)
      | level h ↦ inl (against_equal s t h)
      | higher h ↦ inr (λ e. higher_apart s t h e)
    ]

-- ---- the tests

less_since : (o : Ordering) → is_lt o ≡ true → o ≡ Less
less_since Less e = refl
less_since Equal e = cc
less_since Greater e = cc

pub precedes_less : (s t : List ℕ) → precedes s t ≡ true → against s t ≡ Less
precedes_less s t e = less_since (against s t) e

pub less_precedes : (s t : List ℕ) → against s t ≡ Less → precedes s t ≡ true
less_precedes s t e = ap is_lt e

pub same_is : (s t : List ℕ) → same s t ≡ true → s ≡ t
same_is s t e = against_equal s t ((Equal-is (against s t)).0 e)

pub same_from : (s t : List ℕ) → s ≡ t → same s t ≡ true
same_from s t e = ap (λ u. is_eq (against s u)) (sym e) ∙ ap is_eq (against_self s)

equal_or_not : (o : Ordering) → (o ≡ Equal → ⊥) → is_eq o ≡ false
equal_or_not Less ne = refl
equal_or_not Equal ne = absurd (ne refl)
equal_or_not Greater ne = refl

pub same_not : (s t : List ℕ) → (s ≡ t → ⊥) → same s t ≡ false
same_not s t ne = equal_or_not (against s t) (λ e. ne (against_equal s t e))
