-- The steps of a walk over the symbols of a spread's legs.
use Rattle.std.proofs.Common.{◌≡◌, ℕ, zero, suc, ◌+◌, ◌-◌, ◌*◌, ◌<◌, ◌≤◌, List, Some, None, Ok, Err, Option, refl, ◌∙◌, arith}
use Rattle.std.specs.Option.{option_or}
use Rattle.wire_definitions.specs.Definitions.{first_bad_leg}
use Rattle.wire_fields.specs.Symbols.{first_bad, unless_bad}
use Rattle.wire_types.specs.Refusals.{Breach}

-- a walk over the n legs from `at` on stands before a leg, with no bad byte behind it
pub record Walked (n : ℕ) (m : List ℕ) (at leg : ℕ) : Type 0 where
  pub left : ℕ
  pub place : leg + 10 * left ≡ at + 10 * n
  pub same : first_bad_leg n m at ≡ first_bad_leg left m leg

-- a bad byte of the next leg is the first of all
refused : {X Y : Type 0} (o p : Option ℕ) (e : Breach) (x : X) (y : Y) → Err e ≡ unless_bad o x → Err e ≡ unless_bad (option_or o p) y
refused (Some i) p e x y h = cc
refused None p e x y h = cc

passed : {X : Type 0} (o p : Option ℕ) (s x : X) → Ok s ≡ unless_bad o x → option_or o p ≡ p
passed None p s x h = refl
passed (Some i) p s x h = cc

stops_at : {X Y : Type 0} (k : ℕ) (m : List ℕ) (leg : ℕ) (e : Breach) (x : X) (y : Y) → 0 < k → Err e ≡ unless_bad (first_bad 6 m (leg + 4)) x → Err e ≡ unless_bad (first_bad_leg k m leg) y
unfolding first_bad_leg
stops_at zero m leg e x y h f = absurd (omega arith)
stops_at (suc k) m leg e x y h f = refused _ _ e x y f

goes_on : {X : Type 0} (k : ℕ) (m : List ℕ) (leg : ℕ) (s x : X) → 0 < k → Ok s ≡ unless_bad (first_bad 6 m (leg + 4)) x → first_bad_leg k m leg ≡ first_bad_leg (k - 1) m (leg + 10)
unfolding first_bad_leg
goes_on zero m leg s x h f = absurd (omega arith)
goes_on (suc k) m leg s x h f = let e : suc k - 1 ≡ k = omega arith in rw e (passed _ _ s x f)

module _ (n : ℕ) (m : List ℕ) (at leg : ℕ) (w : Walked n m at leg) where
  pub stops : {X Y : Type 0} → leg < at + 10 * n → (e : Breach) (x : X) (y : Y) → Err e ≡ unless_bad (first_bad 6 m (leg + 4)) x → Err e ≡ unless_bad (first_bad_leg n m at) y
  stops h e x y f =
      let p = w.place in
      rw w.same (stops_at w.left m leg e x y (omega arith) f)

  pub goes : {X : Type 0} → leg < at + 10 * n → (s x : X) → Ok s ≡ unless_bad (first_bad 6 m (leg + 4)) x → Walked n m at (leg + 10)
  goes h s x f =
      let p = w.place in
      record { left = w.left - 1; place = omega arith; same = w.same ∙ goes_on w.left m leg s x (omega arith) f }

  pub ends : at + 10 * n ≤ leg → first_bad_leg n m at ≡ None
  unfolding first_bad_leg
  ends h =
      let p = w.place in
      let k : w.left ≡ 0 = omega arith in
      w.same ∙ rw k refl
