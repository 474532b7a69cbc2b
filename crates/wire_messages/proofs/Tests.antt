-- The first byte that fails a list of tests, and that it is the lowest.
use Rattle.std.proofs.Common.{◌≡◌, ℕ, zero, suc, ◌+◌, ◌<◌, ◌≤◌, Bool, true, false, cond, ◌⊎◌, List, [], ◌∷◌, get_or, take, Some, None, Option, sym, refl, inl, inr, ⊎_elim, arith}
use Rattle.std.proofs.lemmas.List.{get_or-take}
use Rattle.std.proofs.str.Laws.{order}
use Rattle.std.specs.Option.{option_or}
use Rattle.wire_fields.specs.Symbols.{first_bad, printable}
use Rattle.wire_messages.specs.Rules.{Test, symbol_from, code_among, Fails, Outside, Within, Lowest}

-- the first byte that fails one test, and of several in their order
abbrev pub first_of : Test → List ℕ → Option ℕ
first_of (symbol_from at) m = first_bad 6 m at
first_of (code_among at listed) m = cond (listed (get_or m at 0)) None (Some at)

abbrev pub first_fail : List Test → List ℕ → Option ℕ
first_fail [] m = None
first_fail (t ∷ ts) m = option_or (first_of t m) (first_fail ts m)

-- where a test begins, and where it ends
abbrev pub begins : Test → ℕ
begins (symbol_from at) = at
begins (code_among at listed) = at

abbrev pub ends : Test → ℕ
ends (symbol_from at) = at + 6
ends (code_among at listed) = at + 1

-- the tests stand one behind the other, from lo on and below hi
abbrev pub Ordered : ℕ → List Test → ℕ → Type 0
Ordered lo [] hi = lo ≤ hi
Ordered lo (t ∷ ts) hi = (lo ≤ begins t) × Ordered (ends t) ts hi

-- what a search of k bytes from `at` on says where it found byte b
abbrev pub Found : ℕ → List ℕ → ℕ → ℕ → Type 0
Found k m at b = (at ≤ b) × (b < at + k) × (printable (get_or m b 0) ≡ false) × ((c : ℕ) → at ≤ c → c < b → printable (get_or m c 0) ≡ true)

-- a good byte in front
found_behind : (k : ℕ) (m : List ℕ) (at b : ℕ) → printable (get_or m at 0) ≡ true → Found k m (at + 1) b → Found (suc k) m at b
found_behind k m at b e r =
    let lo = r.0 in
    let hi = r.1 in (
      omega arith,
      omega arith,
      r.2,
      λ c p q. ⊎_elim (λ h. r.3 c (omega arith) q) (λ h. let same : at ≡ c = omega arith in rw same at e) (order at c),
    )

found_here : (k : ℕ) (m : List ℕ) (at b : ℕ) → printable (get_or m at 0) ≡ false → Some at ≡ Some b → Found (suc k) m at b
found_here k m at b e h =
    let same : at ≡ b = cc in
    (omega arith, omega arith, rw same at e, λ c p q. absurd (omega arith))

by_front : (k : ℕ) (m : List ℕ) (at b : ℕ) (v : Bool) → printable (get_or m at 0) ≡ v → (first_bad k m (at + 1) ≡ Some b → Found k m (at + 1) b) → cond v (first_bad k m (at + 1)) (Some at) ≡ Some b → Found (suc k) m at b
by_front k m at b true e behind h = found_behind k m at b e (behind h)
by_front k m at b false e behind h = found_here k m at b e h

pub bad_at : (k : ℕ) (m : List ℕ) (at b : ℕ) → first_bad k m at ≡ Some b → Found k m at b
unfolding first_bad
bad_at zero m at b h = cc
bad_at (suc k) m at b h = by_front k m at b (printable (get_or m at 0)) refl (bad_at k m (at + 1) b) h

all_front : (k : ℕ) (m : List ℕ) (at : ℕ) (v : Bool) → printable (get_or m at 0) ≡ v → (first_bad k m (at + 1) ≡ None → (c : ℕ) → at + 1 ≤ c → c < at + 1 + k → printable (get_or m c 0) ≡ true) → cond v (first_bad k m (at + 1)) (Some at) ≡ None → (c : ℕ) → at ≤ c → c < at + suc k → printable (get_or m c 0) ≡ true
all_front k m at true e behind h c p q =
    ⊎_elim (λ l. behind h c (omega arith) (omega arith)) (λ l. let same : at ≡ c = omega arith in rw same at e) (order at c)
all_front k m at false e behind h c p q = cc

-- what it says where it found none
pub none_bad : (k : ℕ) (m : List ℕ) (at : ℕ) → first_bad k m at ≡ None → (c : ℕ) → at ≤ c → c < at + k → printable (get_or m c 0) ≡ true
unfolding first_bad
none_bad zero m at h c p q = absurd (omega arith)
none_bad (suc k) m at h c p q = all_front k m at (printable (get_or m at 0)) refl (none_bad k m (at + 1)) h c p q

clash : {b : Bool} → b ≡ true → b ≡ false → ⊥
clash {b} p q = cc

code_some : (at : ℕ) (listed : ℕ → Bool) (m : List ℕ) (b : ℕ) (v : Bool) → listed (get_or m at 0) ≡ v → cond v None (Some at) ≡ Some b → (at ≤ b) × (b < at + 1) × Fails (code_among at listed) m b × ((c : ℕ) → c < b → Fails (code_among at listed) m c → ⊥)
code_some at listed m b true e h = cc
code_some at listed m b false e h =
    let same : at ≡ b = cc in
    (omega arith, omega arith, (sym same, e), λ c q x. let d = x.0 in omega arith)

code_none : (at : ℕ) (listed : ℕ → Bool) (m : List ℕ) (v : Bool) → listed (get_or m at 0) ≡ v → cond v None (Some at) ≡ None → (c : ℕ) → Fails (code_among at listed) m c → ⊥
code_none at listed m true e h c x = clash e x.1
code_none at listed m false e h c x = cc

-- one test: the first byte found fails it, and none below does
pub first_of_some : (t : Test) (m : List ℕ) (b : ℕ) → first_of t m ≡ Some b → (begins t ≤ b) × (b < ends t) × Fails t m b × ((c : ℕ) → c < b → Fails t m c → ⊥)
first_of_some (symbol_from at) m b h =
    let f = bad_at 6 m at b h in
    (f.0, f.1, (f.0, f.1, f.2), λ c q x. clash (f.3 c x.0 q) x.2)
first_of_some (code_among at listed) m b h = code_some at listed m b (listed (get_or m at 0)) refl h

-- one test: where no byte is found, none fails it
pub first_of_none : (t : Test) (m : List ℕ) → first_of t m ≡ None → (c : ℕ) → Fails t m c → ⊥
first_of_none (symbol_from at) m h c x = clash (none_bad 6 m at h c x.0 x.1) x.2
first_of_none (code_among at listed) m h c x = code_none at listed m (listed (get_or m at 0)) refl h c x

fails_from : (t : Test) (m : List ℕ) (c : ℕ) → Fails t m c → (begins t ≤ c) × (c < ends t)
fails_from (symbol_from at) m c x = (x.0, x.1)
fails_from (code_among at listed) m c x = let e = x.0 in (omega arith, omega arith)

ends_past : (t : Test) → begins t ≤ ends t
ends_past (symbol_from at) = omega arith
ends_past (code_among at listed) = omega arith

ordered_ends : (lo : ℕ) (ts : List Test) (hi : ℕ) → Ordered lo ts hi → lo ≤ hi
ordered_ends lo [] hi o = o
ordered_ends lo (t ∷ ts) hi o =
    let a = o.0 in
    let b = ends_past t in
    let r = ordered_ends (ends t) ts hi o.1 in
    omega arith

-- what fails one of the tests stands among them
pub outside_from : (lo : ℕ) (ts : List Test) (hi : ℕ) (m : List ℕ) (c : ℕ) → Ordered lo ts hi → Outside ts m c → (lo ≤ c) × (c < hi)
outside_from lo [] hi m c o x = absurd x
outside_from lo (t ∷ ts) hi m c o (inl x) =
    let f = fails_from t m c x in
    let a = o.0 in
    let b = ordered_ends (ends t) ts hi o.1 in
    (omega (arith, f.0), omega (arith, f.1))
outside_from lo (t ∷ ts) hi m c o (inr x) =
    let r = outside_from (ends t) ts hi m c o.1 x in
    let a = o.0 in
    let b = ends_past t in
    (omega (arith, r.0), r.1)

pub or_none : {X : Type 0} (o p : Option X) → option_or o p ≡ None → (o ≡ None) × (p ≡ None)
or_none None p h = (refl, h)
or_none (Some i) p h = cc

pub or_some : {X : Type 0} (o p : Option X) (b : X) → option_or o p ≡ Some b → (o ≡ Some b) ⊎ ((o ≡ None) × (p ≡ Some b))
or_some None p b h = inr (refl, h)
or_some (Some i) p b h = inl h

-- where none is found, none fails
pub first_fail_none : (ts : List Test) (m : List ℕ) → first_fail ts m ≡ None → Within ts m
first_fail_none [] m h c x = x
first_fail_none (t ∷ ts) m h c (inl x) = first_of_none t m (or_none _ _ h).0 c x
first_fail_none (t ∷ ts) m h c (inr x) = first_fail_none ts m (or_none _ _ h).1 c x

lowest_here : (t : Test) (ts : List Test) (hi : ℕ) (m : List ℕ) (b : ℕ) → Ordered (ends t) ts hi → first_of t m ≡ Some b → Lowest (t ∷ ts) m b
lowest_here t ts hi m b o e =
    let f = first_of_some t m b e in
    let inside = f.1 in
    (inl f.2, λ c q x. ⊎_elim (f.3 c q) (λ y. let r = outside_from (ends t) ts hi m c o y in let l = r.0 in omega arith) x)

lowest_behind : (t : Test) (ts : List Test) (m : List ℕ) (b : ℕ) → first_of t m ≡ None → Lowest ts m b → Lowest (t ∷ ts) m b
lowest_behind t ts m b e r = (inr r.0, λ c q x. ⊎_elim (first_of_none t m e c) (r.1 c q) x)

-- what is found first is the lowest that fails
pub first_fail_some : (lo : ℕ) (ts : List Test) (hi : ℕ) (m : List ℕ) (b : ℕ) → Ordered lo ts hi → first_fail ts m ≡ Some b → Lowest ts m b
first_fail_some lo [] hi m b o h = cc
first_fail_some lo (t ∷ ts) hi m b o h =
    ⊎_elim (lowest_here t ts hi m b o.1)
    (λ e. lowest_behind t ts m b e.0 (first_fail_some (ends t) ts hi m b o.1 e.1))
    (or_some (first_of t m) (first_fail ts m) b h)

-- the same tests, of the bytes in front alone
fails_front : (t : Test) (n : ℕ) (m : List ℕ) (c : ℕ) → ends t ≤ n → Fails t m c → Fails t (take n m) c
fails_front (symbol_from at) n m c h x = let hi = x.1 in let lt : c < n = omega arith in (x.0, x.1, rw get_or-take x.2)
fails_front (code_among at listed) n m c h x = let lt : at < n = omega arith in (x.0, rw get_or-take x.1)

fails_whole : (t : Test) (n : ℕ) (m : List ℕ) (c : ℕ) → ends t ≤ n → Fails t (take n m) c → Fails t m c
fails_whole (symbol_from at) n m c h x = let hi = x.1 in let lt : c < n = omega arith in (x.0, x.1, rw get_or-take at x.2)
fails_whole (code_among at listed) n m c h x = let lt : at < n = omega arith in (x.0, rw get_or-take at x.1)

pub outside_front : (lo : ℕ) (ts : List Test) (n : ℕ) (m : List ℕ) (c : ℕ) → Ordered lo ts n → Outside ts m c → Outside ts (take n m) c
outside_front lo [] n m c o x = x
outside_front lo (t ∷ ts) n m c o (inl x) = inl (fails_front t n m c (ordered_ends (ends t) ts n o.1) x)
outside_front lo (t ∷ ts) n m c o (inr x) = inr (outside_front (ends t) ts n m c o.1 x)

pub outside_whole : (lo : ℕ) (ts : List Test) (n : ℕ) (m : List ℕ) (c : ℕ) → Ordered lo ts n → Outside ts (take n m) c → Outside ts m c
outside_whole lo [] n m c o x = x
outside_whole lo (t ∷ ts) n m c o (inl x) = inl (fails_whole t n m c (ordered_ends (ends t) ts n o.1) x)
outside_whole lo (t ∷ ts) n m c o (inr x) = inr (outside_whole (ends t) ts n m c o.1 x)
