-- What a board keeps true of its store, after each of the store's calls.
use Rattle.std.proofs.Common.{◌≡◌, ℕ, ◌+◌, ◌-◌, ◌≤◌, Bool, true, false, cond, List, [], ◌++◌, length, take, drop, replicate, sym, refl, ap, ◌∙◌, arith}
use mathlib.Core.Logic.{∥∥₁_map, ∥∥₁_elim}
use base.Stored.{Coded-set, coded_list}
use Rattle.std.proofs.lemmas.List.{drop-drop, drop-replicate, length-replicate, length-take-le, take-append-drop}
use Rattle.market.specs.Effects.{blank}
use Rattle.market.specs.Market.{Kind}
use Rattle.market.specs.contracts.row.Row.{the_row}
use Rattle.market.specs.declared.clock.Clock.{Clock}
use Rattle.market.specs.declared.row.Row.{Row}
use Rattle.market.proofs.Applied.{viewed}
use Rattle.store.specs.Stores.{size, spare, used}
use Rattle.store.specs.declared.store.Store.{Store}
use Rattle.book.specs.Laws.{RestIsBlank}
use Rattle.book.specs.Views.{lent_rows}
use Rattle.book.specs.declared.board.Board.{Board}

-- the spare rows stay blank as fewer are left
fewer_blank : (rows : List Row) (n m : ℕ) → n ≤ m → m ≤ length rows → drop n rows ≡ replicate (length rows - n) blank → drop m rows ≡ replicate (length rows - m) blank
fewer_blank rows n m le inside e =
    let k : n + (m - n) ≡ m = omega arith in
    let j : (length rows - n) - (m - n) ≡ length rows - m = omega arith in
    ap (λ i. drop i rows) (sym k) ∙ sym (drop-drop (m - n) n rows) ∙ ap (drop (m - n)) e ∙ drop-replicate (m - n) (length rows - n) blank ∙ ap (λ i. replicate i blank) j

pub record Sound (st : Store) : Type 0 where
  pub some : 1 ≤ size st
  pub few : size st ≤ 4096
  pub rest : ∥ spare st ≡ replicate (size st - st.count) blank ∥₁

pub sound : (b : Board) → Sound b.store
sound b = record { some = b.some; few = b.few; rest = b.rest }

-- a store with no row in use
pub sound_blank : (st : Store) (n : ℕ) → 1 ≤ n → n ≤ 4096 → st.rows.now ≡ replicate n blank → st.count ≡ 0 → Sound st
sound_blank st n some few rows count =
    let long : size st ≡ n = ap length rows ∙ length-replicate n blank in
    record {
      some = omega arith;
      few = omega arith;
      rest = ∣ ap (λ k. drop k st.rows.now) count ∙ rows ∙ ap (λ k. replicate k blank) (omega arith) ∣₁;
    }

pub sound_edited : (st st' : Store) → Sound st → spare st' ≡ spare st → st'.count ≡ st.count → size st' ≡ size st → Sound st'
sound_edited st st' s sp count long =
    let some = s.some in
    let few = s.few in
    record {
      some = omega arith;
      few = omega arith;
      rest = ∥∥₁_map s.rest (λ q. sp ∙ q ∙ ap (λ n. replicate n blank) (omega arith));
    }

pub sound_upserted : (st st' : Store) → Sound st → spare st' ≡ drop st'.count st.rows.now → size st' ≡ size st → st.count ≤ st'.count → Sound st'
sound_upserted st st' s sp long grows =
    let some = s.some in
    let few = s.few in
    let within = st'.within in
    record {
      some = omega arith;
      few = omega arith;
      rest = ∥∥₁_map s.rest (λ q. sp ∙ fewer_blank st.rows.now st.count st'.count grows (omega arith) q ∙ ap (λ n. replicate (n - st'.count) blank) (sym long));
    }

-- ---- what a board shows

-- rows that change only where there is room
pub viewed_cond : (c : Clock) (b : Bool) (rs rs' : List Row) (k : Kind) → viewed c (cond b rs rs') k ≡ cond b (viewed c rs k) (viewed c rs' k)
viewed_cond c true rs rs' k = refl
viewed_cond c false rs rs' k = refl

pub none_used : (st : Store) → st.count ≡ 0 → used st ≡ []
none_used st count = ap (λ n. take n st.rows.now) count

-- ---- the rows that were lent

-- the fact out of its box, since lists of rows are a set
spare_blank : (b : Board) → spare b.store ≡ replicate (size b.store - b.store.count) blank
spare_blank b = ∥∥₁_elim b.rest (Coded-set (coded_list the_row.coded) _ _) (λ e. e)

pub rest_is_blank : RestIsBlank
rest_is_blank b =
    let long : length (used b.store) ≡ b.store.count = length-take-le b.store.count (lent_rows b) b.store.within in
    sym (take-append-drop b.store.count (lent_rows b))
    ∙ ap (λ xs. used b.store ++ xs) (spare_blank b ∙ ap (λ n. replicate (size b.store - n) blank) (sym long))
