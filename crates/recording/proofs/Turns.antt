-- What one turn of the decoding keeps. Assumes nothing.
use Rattle.std.proofs.Common.{Ok, Err, ◌≡◌, ◌≢◌, ◌<◌, ◌≤◌, get_or, drop, cond, Bool, ℕ, true, false, List, [], ◌∷◌, ◌++◌, length, Some, None, Option, sym, refl, ap, ◌∙◌, append_assoc, append-nil, length-drop, arith}
use Rattle.std.specs.Option.{ok_or}
use Rattle.recording.specs.declared.line.BadLine.{BadLine}
use Rattle.recording.specs.declared.line.BadLine.TheVariants.{NoHex}
use Rattle.recording.specs.Hex.{nibble_of, pair_of, led, hex_bytes}
use Rattle.recording.specs.Text.{blank, unblanked}

-- the bytes that are there, in front of those to come, where these are known
abbrev pub behind : List ℕ → Option (List ℕ) → Option (List ℕ)
behind done None = None
behind done (Some more) = Some (done ++ more)

behind_led : (done : List ℕ) (b : ℕ) (more : Option (List ℕ)) → behind done (led (Some b) more) ≡ behind (done ++ b ∷ []) more
behind_led done b None = refl
behind_led done b (Some more) = ap (λ l. Some l) (sym (append_assoc done (b ∷ []) more))

behind_nothing : (more : Option (List ℕ)) → behind [] more ≡ more
behind_nothing None = refl
behind_nothing (Some more) = refl

unblanked-shorter : (t : List ℕ) → length (unblanked t) ≤ length t
unfolding unblanked
unblanked-shorter [] = omega arith
unblanked-shorter (b ∷ bs) = let rest = unblanked-shorter bs in elim (blank b) as (λ v. length (cond v (unblanked bs) (b ∷ bs)) ≤ length (b ∷ bs)) [ true ↦ omega (arith, rest) | false ↦ omega arith ]

unblanked-twice : (t : List ℕ) → unblanked (unblanked t) ≡ unblanked t
unfolding unblanked
unblanked-twice [] = refl
unblanked-twice (b ∷ bs) = at (blank b) refl (unblanked-twice bs)
  where
    at : (v : Bool) → blank b ≡ v → unblanked (unblanked bs) ≡ unblanked bs → unblanked (unblanked (b ∷ bs)) ≡ unblanked (b ∷ bs)
    at true e rest = rw e rest
    at false e rest = rw e (rw e refl)

over_blank : (a : ℕ) (t : List ℕ) → blank a ≡ true → hex_bytes (a ∷ t) ≡ hex_bytes t
unfolding hex_bytes
over_blank a [] e = rw e refl
over_blank a (b ∷ rest) e = rw e refl

hex_bytes-unblanked : (t : List ℕ) → hex_bytes (unblanked t) ≡ hex_bytes t
unfolding unblanked
hex_bytes-unblanked [] = refl
hex_bytes-unblanked (a ∷ t) = at (blank a) refl (hex_bytes-unblanked t)
  where
    at : (v : Bool) → blank a ≡ v → hex_bytes (unblanked t) ≡ hex_bytes t → hex_bytes (unblanked (a ∷ t)) ≡ hex_bytes (a ∷ t)
    at true e rest = rw e (rest ∙ sym (over_blank a t e))
    at false e rest = rw e refl

no_blank : (a : ℕ) (rest : List ℕ) → unblanked (a ∷ rest) ≡ a ∷ rest → blank a ≡ false
unfolding unblanked
no_blank a rest e = at (blank a) refl
  where
    at : (v : Bool) → blank a ≡ v → blank a ≡ false
    at false h = h
    at true h = absurd (omega (arith, unblanked-shorter rest, ap length (rw h at e)))

-- a pair of digits, or none
pub byte_taken : (o : Option ℕ) (byte : ℕ) → ok_or o NoHex ≡ Ok byte → Some byte ≡ o
byte_taken None byte e = cc
byte_taken (Some b) byte e = cc

pub byte_refused : (o : Option ℕ) (bad : BadLine) → ok_or o NoHex ≡ Err bad → (bad ≡ NoHex) × (None ≡ o)
byte_refused None bad e = (cc, refl)
byte_refused (Some b) bad e = (cc, cc)

-- what is there and what is left give the whole text's bytes; no blank stands in front of what is left
pub record Kept (text done rest : List ℕ) : Type 0 where
  pub same : behind done (hex_bytes rest) ≡ hex_bytes text
  pub clear : unblanked rest ≡ rest

pub at_start : (text rest : List ℕ) → rest ≡ unblanked text → Kept text [] rest
at_start text rest e = record { same = rw e (behind_nothing (hex_bytes (unblanked text)) ∙ hex_bytes-unblanked text); clear = rw e (unblanked-twice text) }

pub shorter : (rest next : List ℕ) → 2 ≤ length rest → next ≡ unblanked (drop 2 rest) → length next < length rest
shorter rest next long e = rw e (omega (arith, unblanked-shorter (drop 2 rest), length-drop 2 rest))

module _ {text done : List ℕ} where
  pub over_pair : (rest next : List ℕ) (byte : ℕ) → 2 ≤ length rest → Some byte ≡ pair_of (nibble_of (get_or rest 0 0)) (nibble_of (get_or rest 1 0)) → next ≡ unblanked (drop 2 rest) → Kept text done rest → Kept text (done ++ byte ∷ []) next
  unfolding hex_bytes
  over_pair [] next byte long p e h = absurd (omega arith)
  over_pair (a ∷ []) next byte long p e h = absurd (omega arith)
  over_pair (a ∷ b ∷ rest) next byte long p e h = record {
    same = rw (e, hex_bytes-unblanked) (sym (behind_led done byte (hex_bytes rest)) ∙ (rw (no_blank a _ h.clear, ← p) at h.same));
    clear = rw e (unblanked-twice rest);
  }

  pub no_pair : (rest : List ℕ) → 2 ≤ length rest → None ≡ pair_of (nibble_of (get_or rest 0 0)) (nibble_of (get_or rest 1 0)) → Kept text done rest → hex_bytes text ≡ None
  unfolding hex_bytes
  no_pair [] long p h = absurd (omega arith)
  no_pair (a ∷ []) long p h = absurd (omega arith)
  no_pair (a ∷ b ∷ rest) long p h = sym (rw (no_blank a _ h.clear, ← p) at h.same)

  pub lone_digit : (rest : List ℕ) → length rest < 2 → length rest ≢ 0 → Kept text done rest → hex_bytes text ≡ None
  unfolding hex_bytes
  lone_digit [] short some h = absurd (some refl)
  lone_digit (a ∷ []) short some h = sym (rw (no_blank a _ h.clear) at h.same)
  lone_digit (a ∷ b ∷ rest) short some h = absurd (omega arith)

  pub at_end : (rest : List ℕ) → length rest ≡ 0 → Kept text done rest → hex_bytes text ≡ Some done
  unfolding hex_bytes
  at_end [] none h = sym h.same ∙ ap (λ l. Some l) (append-nil done)
  at_end (a ∷ rest) none h = absurd (omega arith)
