-- Two lists of bytes that agree from byte 1 on, up to byte s: what a reader finds there is the same.
use Rattle.std.proofs.Common.{◌≡◌, ℕ, zero, suc, ◌+◌, ◌*◌, ◌<◌, ◌≤◌, Bool, true, false, cond, ◌&&◌, ◌||◌, eqb, leb, List, length, get_or, take, drop, ℤ, Ok, Err, Result, sym, refl, ap, ◌∙◌, arith}
use Rattle.std.proofs.lemmas.List.{ext_get_or, get_or-take, get_or-drop, length-take, length-drop}
use Rattle.std.proofs.lemmas.Bool.Decides.{nat_tests}
use Rattle.wire_definitions.specs.Definitions.{definition_at, makeup_at, parts_at, first_bad_leg, keeps_leg_rule, is_variance, leg_count, legs_at, variance_at}
use Rattle.wire_fields.specs.Codes.{code_at}
use Rattle.wire_fields.specs.Symbols.{first_bad, symbol_at}
use Rattle.wire_messages.specs.Tails.{span}
use Rattle.wire_types.specs.Codes.{listing_of}
use Rattle.wire_types.specs.Legs.{LegRecord}
use Rattle.wire_types.specs.Numbers.{le, signed}
use Rattle.wire_types.specs.Records.{Record, Makeup, outright, spread, variance_future, definition}
use Rattle.wire_types.specs.Refusals.{Breach, breach, and_then}
use Rattle.wire_types.specs.declared.code.Listing.{Listing}
use Rattle.wire_types.specs.declared.kind.Kind.TheVariants as the_kind

-- both have s bytes, and agree but for the first
pub record Alike (s : ℕ) (m w : List ℕ) : Type 0 where
  pub long : s ≤ length m
  pub wide : s ≤ length w
  pub same : (i : ℕ) → 0 < i → i < s → get_or w i 0 ≡ get_or m i 0

abbrev legs_or_none : ℕ → Result (List LegRecord) Breach → Result Makeup Breach
legs_or_none k legs = cond (eqb k 0) (Ok outright) (and_then legs (λ l. Ok (spread l)))

-- a definition by its fields
abbrev assembled : ℕ → Result (List ℕ) Breach → ℕ → Result (List ℕ) Breach → ℕ → ℕ → ℕ → Result Listing Breach → ℤ → ℕ → Result Makeup Breach → Result Record Breach
assembled o s u p f e c l i d x =
    and_then s (λ s. and_then p (λ p. and_then l (λ l. and_then x (λ x.
    Ok (definition (record { time_offset = o; symbol = s; unit_timestamp = u; report_symbol = p; flags = f; expiration = e; contract_size = c; listing = l; increment = i; contract_date = d; structure = x }))))))

variance_parts : (m : List ℕ) → is_variance m ≡ true → parts_at m ≡ Ok (variance_future (variance_at m 45))
variance_parts m f = ap (λ v. cond v (Ok (variance_future (variance_at m 45))) (legs_or_none (leg_count m) (legs_at m (leg_count m) 45))) f

leg_parts : (m : List ℕ) → is_variance m ≡ false → parts_at m ≡ legs_or_none (leg_count m) (legs_at m (leg_count m) 45)
leg_parts m f = ap (λ v. cond v (Ok (variance_future (variance_at m 45))) (legs_or_none (leg_count m) (legs_at m (leg_count m) 45))) f

kept_parts : (m : List ℕ) → keeps_leg_rule m ≡ true → makeup_at m ≡ parts_at m
kept_parts m k = ap (λ v. cond v (parts_at m) (Err (breach 11 38))) k

module _ (s : ℕ) (m w : List ℕ) (a : Alike s m w) where
  le_alike : (k at : ℕ) → 0 < at → at + k ≤ s → le k w at ≡ le k m at
  le_alike zero at p h = refl
  le_alike (suc k) at p h =
      let e = a.same at p (omega arith) in
      let r = le_alike k (at + 1) (omega arith) (omega arith) in
      rw (e, r) refl

  bad_alike : (k at : ℕ) → 0 < at → at + k ≤ s → first_bad k w at ≡ first_bad k m at
  unfolding first_bad
  bad_alike zero at p h = refl
  bad_alike (suc k) at p h =
      let e = a.same at p (omega arith) in
      let r = bad_alike k (at + 1) (omega arith) (omega arith) in
      rw (e, r) refl

  bad_leg_alike : (k at : ℕ) → 0 < at → at + 10 * k ≤ s → first_bad_leg k w at ≡ first_bad_leg k m at
  unfolding first_bad_leg
  bad_leg_alike zero at p h = refl
  bad_leg_alike (suc k) at p h =
      let e = bad_alike 6 (at + 4) (omega arith) (omega arith) in
      let r = bad_leg_alike k (at + 10) (omega arith) (omega arith) in
      rw (e, r) refl

  pub part_alike : (n at : ℕ) → 0 < at → at + n ≤ s → take n (drop at w) ≡ take n (drop at m)
  part_alike n at p h =
      let l = a.long in
      let k = a.wide in
      ext_get_or 0 _ _ (simp (length-take, length-drop) (omega arith))
      (λ i q. let lt : i < n = omega (arith, q, length-take n (drop at w)) in
      simp (get_or-take, get_or-drop) (a.same (at + i) (omega arith) (omega arith)))

  symbol_alike : (at : ℕ) → 0 < at → at + 6 ≤ s → symbol_at w at ≡ symbol_at m at
  symbol_alike at p h = let b = bad_alike 6 at p h in let t = part_alike 6 at p h in rw (b, t) refl

  listing_alike : 45 ≤ s → code_at listing_of w 29 ≡ code_at listing_of m 29
  listing_alike h = let e = a.same 29 (omega arith) (omega arith) in rw e refl

  variance_alike : 97 ≤ s → variance_at w 45 ≡ variance_at m 45
  variance_alike h =
      let p0 = le_alike 8 45 (omega arith) (omega arith) in
      let p1 = le_alike 2 53 (omega arith) (omega arith) in
      let p2 = le_alike 2 55 (omega arith) (omega arith) in
      let p3 = le_alike 8 57 (omega arith) (omega arith) in
      let p4 = le_alike 8 65 (omega arith) (omega arith) in
      let p5 = le_alike 8 73 (omega arith) (omega arith) in
      let p6 = le_alike 8 81 (omega arith) (omega arith) in
      let p7 = le_alike 8 89 (omega arith) (omega arith) in
      rw (p0, p1, p2, p3, p4, p5, p6, p7) refl

  legs_alike : (k : ℕ) → 45 + 10 * k ≤ s → legs_at w k 45 ≡ legs_at m k 45
  legs_alike k h =
      let b = bad_leg_alike k 45 (omega arith) h in
      let t = part_alike (10 * k) 45 (omega arith) h in
      rw (b, t) refl

  flag_alike : 45 ≤ s → is_variance w ≡ is_variance m
  flag_alike h = let e = a.same 22 (omega arith) (omega arith) in rw e refl

  count_alike : 45 ≤ s → leg_count w ≡ leg_count m
  count_alike h = a.same 38 (omega arith) (omega arith)

  rule_alike : 45 ≤ s → (v : Bool) → is_variance m ≡ v → cond v 97 (45 + 10 * leg_count m) ≤ s → keeps_leg_rule m ≡ true → keeps_leg_rule w ≡ true
  rule_alike h true f r k =
      let g : is_variance w ≡ true = flag_alike h ∙ f in
      let c = count_alike h in
      let o = a.same 40 (omega arith) (omega arith) in
      let l : 97 ≤ length w = omega (arith, a.wide) in
      let k' : (eqb (leg_count m) 0 && eqb (get_or m 40 0) 45 && leb 97 (length m)) ≡ true = rw f at k in
      rw (g, c, o) (grind (arith, nat_tests))
  rule_alike h false f r k =
      let g : is_variance w ≡ false = flag_alike h ∙ f in
      let c = count_alike h in
      let o = a.same 39 (omega arith) (omega arith) in
      let l : 45 + 10 * leg_count m ≤ length w = omega (arith, a.wide) in
      let k' : (eqb (leg_count m) 0 || leb (leg_count m) 4 && eqb (get_or m 39 0) 45 && leb (45 + 10 * leg_count m) (length m)) ≡ true = rw f at k in
      rw (g, c, o) (grind (arith, nat_tests))

  parts_alike : 45 ≤ s → (v : Bool) → is_variance m ≡ v → cond v 97 (45 + 10 * leg_count m) ≤ s → parts_at w ≡ parts_at m
  parts_alike h true f r = variance_parts w (flag_alike h ∙ f) ∙ ap (λ v. Ok (variance_future v)) (variance_alike r) ∙ sym (variance_parts m f)
  parts_alike h false f r =
      let c = count_alike h in
      let l = legs_alike (leg_count m) r in
      leg_parts w (flag_alike h ∙ f) ∙ rw (c, l) refl ∙ sym (leg_parts m f)

  makeup_alike : 45 ≤ s → span the_kind.Definition m ≤ s → keeps_leg_rule m ≡ true → makeup_at w ≡ makeup_at m
  makeup_alike h r k =
      kept_parts w (rule_alike h (is_variance m) refl r k) ∙ parts_alike h (is_variance m) refl r ∙ sym (kept_parts m k)

  -- a definition that keeps the rule reads the same
  pub definition_alike : 45 ≤ s → span the_kind.Definition m ≤ s → keeps_leg_rule m ≡ true → definition_at w ≡ definition_at m
  definition_alike h r k =
      let p0 = le_alike 4 2 (omega arith) (omega arith) in
      let p1 = symbol_alike 6 (omega arith) (omega arith) in
      let p2 = le_alike 4 12 (omega arith) (omega arith) in
      let p3 = symbol_alike 16 (omega arith) (omega arith) in
      let p4 = a.same 22 (omega arith) (omega arith) in
      let p5 = le_alike 4 23 (omega arith) (omega arith) in
      let p6 = le_alike 2 27 (omega arith) (omega arith) in
      let p7 = listing_alike h in
      let p8 = le_alike 8 30 (omega arith) (omega arith) in
      let p9 = le_alike 4 41 (omega arith) (omega arith) in
      let q = makeup_alike h r k in
      λ j. assembled (p0 j) (p1 j) (p2 j) (p3 j) (p4 j) (p5 j) (p6 j) (p7 j) (signed 8 (p8 j)) (p9 j) (q j)
