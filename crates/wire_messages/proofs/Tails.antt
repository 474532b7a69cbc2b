-- What stands behind the span of a message never changes its record.
use Rattle.std.proofs.Common.{◌≡◌, ℕ, zero, suc, ◌+◌, ◌-◌, ◌*◌, ◌<◌, ◌≤◌, Bool, true, false, cond, ◌≢◌, List, [], ◌∷◌, ◌++◌, length, get_or, take, drop, Ok, sym, refl, ap, ◌∙◌, arith, lit≤, le-ltb, le-leb}
use Rattle.std.proofs.lemmas.List.{get_or-take, get_or-set_same, get_or-set_other, get_or_append_left, length-set, length-append, length-take-le}
use Rattle.std.proofs.lemmas.Bool.Decides.{nat_tests}
use Rattle.wire_definitions.specs.Definitions.{is_variance, leg_count, keeps_leg_rule}
use Rattle.wire_fields.specs.Symbols.{first_bad}
use Rattle.wire_messages.proofs.Alike.{Alike, part_alike, definition_alike}
use Rattle.wire_messages.specs.Forms.{fixed_at, kind_at, form_at, frame, decoded}
use Rattle.wire_messages.specs.Kinds.{kind_of, least, table_length}
use Rattle.wire_messages.specs.Rules.{Sound, Framed, front, front_kind}
use Rattle.wire_messages.specs.Tails.{span, with_tail, TailIgnored}
use Rattle.wire_types.specs.Records.{Record, unlisted}
use Rattle.wire_types.specs.Refusals.{and_then}
use Rattle.wire_types.specs.declared.header.Carrier.{Carrier}
use Rattle.wire_types.specs.declared.kind.FixedKind.{FixedKind}
use Rattle.wire_types.specs.declared.kind.FixedKind.TheVariants as the
use Rattle.wire_types.specs.declared.kind.Kind.{Kind}
use Rattle.wire_types.specs.declared.kind.Kind.TheVariants as the_kind

-- no table looks at its Length
unread : (t : FixedKind) (x y : ℕ) (zs : List ℕ) → fixed_at t (x ∷ zs) ≡ fixed_at t (y ∷ zs)
unfolding first_bad
unread the.Time x y zs = refl
unread the.TimeReference x y zs = refl
unread the.UnitClear x y zs = refl
unread the.TradingStatus x y zs = refl
unread the.SnapshotShort x y zs = refl
unread the.SnapshotLong x y zs = refl
unread the.SingleSideShort x y zs = refl
unread the.SingleSideLong x y zs = refl
unread the.TwoSideShort x y zs = refl
unread the.TwoSideLong x y zs = refl
unread the.TopTrade x y zs = refl
unread the.Settlement x y zs = refl
unread the.PriceLimits x y zs = refl
unread the.EndOfSession x y zs = refl
unread the.EndOfDaySummary x y zs = refl
unread the.OpenInterest x y zs = refl
unread the.SpinImageAvailable x y zs = refl
unread the.SpinResponse x y zs = refl
unread the.SpinFinished x y zs = refl

two_at_least : (t : FixedKind) → 2 ≤ table_length t
two_at_least the.Time = lit≤ tt
two_at_least the.TimeReference = lit≤ tt
two_at_least the.UnitClear = lit≤ tt
two_at_least the.TradingStatus = lit≤ tt
two_at_least the.SnapshotShort = lit≤ tt
two_at_least the.SnapshotLong = lit≤ tt
two_at_least the.SingleSideShort = lit≤ tt
two_at_least the.SingleSideLong = lit≤ tt
two_at_least the.TwoSideShort = lit≤ tt
two_at_least the.TwoSideLong = lit≤ tt
two_at_least the.TopTrade = lit≤ tt
two_at_least the.Settlement = lit≤ tt
two_at_least the.PriceLimits = lit≤ tt
two_at_least the.EndOfSession = lit≤ tt
two_at_least the.EndOfDaySummary = lit≤ tt
two_at_least the.OpenInterest = lit≤ tt
two_at_least the.SpinImageAvailable = lit≤ tt
two_at_least the.SpinResponse = lit≤ tt
two_at_least the.SpinFinished = lit≤ tt

front_cons : (n : ℕ) (m : List ℕ) → 0 < n → 0 < length m → take n m ≡ get_or m 0 0 ∷ take (n - 1) (drop 1 m)
front_cons zero m p q = absurd (omega arith)
front_cons (suc n) [] p q = absurd (omega arith)
front_cons (suc n) (x ∷ zs) p q = let e : suc n - 1 ≡ n = omega arith in rw e refl

fixed_alike : (t : FixedKind) (m w : List ℕ) → Alike (table_length t) m w → fixed_at t (take (table_length t) w) ≡ fixed_at t (take (table_length t) m)
fixed_alike t m w a =
    let two = two_at_least t in
    let l = a.long in
    let k = a.wide in
    ap (fixed_at t) (front_cons (table_length t) w (omega arith) (omega arith) ∙ ap (λ zs. get_or w 0 0 ∷ zs) (part_alike (table_length t) m w a (table_length t - 1) 1 (omega arith) (omega arith)))
    ∙ unread t (get_or w 0 0) (get_or m 0 0) (take (table_length t - 1) (drop 1 m))
    ∙ ap (fixed_at t) (sym (front_cons (table_length t) m (omega arith) (omega arith)))

kept_span : (m : List ℕ) (v : Bool) → is_variance m ≡ v → 45 ≤ length m → keeps_leg_rule m ≡ true → (45 ≤ cond v 97 (45 + 10 * leg_count m)) × (cond v 97 (45 + 10 * leg_count m) ≤ length m)
kept_span m true e l k = (omega arith, grind (arith, nat_tests))
kept_span m false e l k = (omega arith, grind (arith, nat_tests))

-- a sound message has its span, which is at least its least length
span_within : (k : Kind) (m : List ℕ) → 2 ≤ length m → Sound k m → (2 ≤ span k m) × (least k ≤ span k m) × (span k m ≤ length m)
span_within (the_kind.Fixed t) m l s = (two_at_least t, omega arith, s.long)
span_within the_kind.Definition m l s =
    let r = kept_span m (is_variance m) refl s.long s.rule in
    let lo = r.0 in
    (omega arith, r.0, r.1)
span_within the_kind.Unlisted m l s = (omega arith, omega arith, l)

kind_alike : (k : Kind) (m w : List ℕ) → 2 ≤ length m → Sound k m → Alike (span k m) m w → kind_at k w ≡ kind_at k m
kind_alike (the_kind.Fixed t) m w l s a = fixed_alike t m w a
kind_alike the_kind.Definition m w l s a =
    let r = kept_span m (is_variance m) refl s.long s.rule in
    definition_alike (span the_kind.Definition m) m w a r.0 (omega arith) s.rule
kind_alike the_kind.Unlisted m w l s a = ap (λ b. Ok (unlisted b)) (a.same 1 (omega arith) (omega arith))

long_form : (k : Kind) (m : List ℕ) → least k ≤ length m → form_at k m ≡ kind_at k m
long_form k m h = rw (le-ltb (length m) (least k) h) refl

framed_frame : (bytes : List ℕ) → Framed bytes → frame bytes ≡ Ok (front bytes)
framed_frame bytes f =
    let a = le-leb 2 (get_or bytes 0 0) f.0 in
    let b = le-leb (get_or bytes 0 0) (length bytes) f.1 in
    rw (a, b) refl

-- the kind told by the whole bytes is told by the message alone
pub same_kind : (carrier : Carrier) (bytes : List ℕ) → Framed bytes → kind_of carrier (get_or (front bytes) 1 0) ≡ front_kind carrier bytes
same_kind carrier bytes f = ap (kind_of carrier) (get_or-take (get_or bytes 0 0) bytes 1 0 f.0)

-- a framed message is read by its kind
pub framed_form : (carrier : Carrier) (bytes : List ℕ) → Framed bytes → decoded carrier bytes ≡ form_at (front_kind carrier bytes) (front bytes)
framed_form carrier bytes f =
    ap (λ r. and_then r (λ m. form_at (kind_of carrier (get_or m 1 0)) m)) (framed_frame bytes f) ∙ ap (λ k. form_at k (front bytes)) (same_kind carrier bytes f)

pub length_front : (bytes : List ℕ) → Framed bytes → length (front bytes) ≡ get_or bytes 0 0
length_front bytes f = length-take-le (get_or bytes 0 0) bytes f.1

-- the bytes with another tail behind their first s
module _ (bytes : List ℕ) (s n : ℕ) (tail : List ℕ) (two : 2 ≤ s) (have : s ≤ length bytes) (lo : s ≤ n) (hi : n ≤ s + length tail) where
  length_tailed : length (with_tail s bytes n tail) ≡ s + length tail
  length_tailed = length-set (take s bytes ++ tail) 0 n ∙ length-append (take s bytes) tail ∙ ap (λ l. l + length tail) (length-take-le s bytes have)

  first_tailed : get_or (with_tail s bytes n tail) 0 0 ≡ n
  first_tailed =
      let l = length-append (take s bytes) tail in
      let t = length-take-le s bytes have in
      get_or-set_same (take s bytes ++ tail) 0 n 0 (omega arith)

  byte_tailed : (i : ℕ) → 0 < i → i < s → get_or (with_tail s bytes n tail) i 0 ≡ get_or bytes i 0
  byte_tailed i p q =
      let ne : i ≢ 0 = omega arith in
      let t = length-take-le s bytes have in
      get_or-set_other (take s bytes ++ tail) 0 i n 0 ne ∙ get_or_append_left (take s bytes) tail 0 i (omega arith) ∙ get_or-take s bytes i 0 q

  framed_tailed : Framed (with_tail s bytes n tail)
  framed_tailed =
      let f = first_tailed in
      let l = length_tailed in
      (omega arith, omega arith)

  alike_tailed : (m : List ℕ) → s ≤ length m → ((i : ℕ) → i < s → get_or m i 0 ≡ get_or bytes i 0) → Alike s m (front (with_tail s bytes n tail))
  alike_tailed m l same =
      let f = first_tailed in
      let w = length_front (with_tail s bytes n tail) framed_tailed in
      record {
        long = l;
        wide = omega arith;
        same = λ i p q. get_or-take (get_or (with_tail s bytes n tail) 0 0) (with_tail s bytes n tail) i 0 (omega arith) ∙ byte_tailed i p q ∙ sym (same i q);
      }

  read_tailed : (carrier : Carrier) (k : Kind) (m : List ℕ) → front_kind carrier bytes ≡ k → least k ≤ s → kind_at k (front (with_tail s bytes n tail)) ≡ kind_at k m → decoded carrier (with_tail s bytes n tail) ≡ kind_at k m
  read_tailed carrier k m e l h =
      let f = first_tailed in
      let w = length_front (with_tail s bytes n tail) framed_tailed in
      framed_form carrier (with_tail s bytes n tail) framed_tailed
      ∙ ap (λ k. form_at k (front (with_tail s bytes n tail))) (ap (kind_of carrier) (byte_tailed 1 (omega arith) (omega arith)) ∙ e)
      ∙ long_form k (front (with_tail s bytes n tail)) (omega arith) ∙ h

pub tail_ignored : (carrier : Carrier) (bytes : List ℕ) (x : Record) → Framed bytes → Sound (front_kind carrier bytes) (front bytes) → decoded carrier bytes ≡ Ok x → TailIgnored carrier bytes x
tail_ignored carrier bytes x f sound h n tail lo hi =
    let len = length_front bytes f in
    let two : 2 ≤ length (front bytes) = omega (arith, f.0) in
    let sp = span_within (front_kind carrier bytes) (front bytes) two sound in
    let have : span (front_kind carrier bytes) (front bytes) ≤ length bytes = omega (arith, sp.2, f.1) in
    let a = alike_tailed bytes (span (front_kind carrier bytes) (front bytes)) n tail sp.0 have lo hi (front bytes) sp.2
    (λ i q. get_or-take (get_or bytes 0 0) bytes i 0 (omega (arith, sp.2))) in
    read_tailed bytes (span (front_kind carrier bytes) (front bytes)) n tail sp.0 have lo hi carrier (front_kind carrier bytes) (front bytes) refl sp.1
    (kind_alike (front_kind carrier bytes) (front bytes) (front (with_tail (span (front_kind carrier bytes) (front bytes)) bytes n tail)) two sound a)
    ∙ sym (long_form (front_kind carrier bytes) (front bytes) sound.long) ∙ sym (framed_form carrier bytes f) ∙ h
