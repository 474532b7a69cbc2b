-- What a book has to do with a message, by what the message acts on: for the proof of any kind of book.
use Rattle.std.proofs.Common.{◌≡◌, ℕ, Bool, true, false, cond, not, ◌&&◌, leb, List, map, length, refl, ap, ◌∙◌, subst}
use Rattle.market.specs.Effects.{Effect, nothing, clock, clear, row, Aim, at_nothing, at_clock, at_every_row, at_row, aim, ticked, edited}
use Rattle.market.specs.Market.{Market, Kind, View, has, upsert, with_clock, with_rows, with_market, heard, acted, short, after, lacks, full_for, applied}
use Rattle.market.specs.declared.clock.Clock.{Clock}
use Rattle.market.specs.declared.row.Row.{Row}

-- the view of rows at a clock, in a book of a kind
abbrev pub viewed : Clock → List Row → Kind → View Market Kind
viewed c rs k = record { market = record { clock = c; rows = rs }; kind = k }

pub viewed_as : (c : Clock) (rs rs' : List Row) (k k' : Kind) → rs' ≡ rs → k' ≡ k → viewed c rs' k' ≡ viewed c rs k
viewed_as c rs rs' k k' e f = ap (λ xs. viewed c xs k') e ∙ ap (viewed c rs) f

-- what an effect that acts there makes of a market
abbrev pub act : (List ℕ → Bool) → Aim → Effect → Market → Market
act follows at_nothing e m = m
act follows at_clock e m = with_clock (ticked e m.clock) m
act follows at_every_row e m = with_rows (map (edited e) m.rows) m
act follows (at_row s) e m = cond (follows s) (with_rows (upsert s (edited e) m.rows) m) m

-- whether it needs a row for which there is no room
abbrev pub short_at : Kind → Aim → Market → Bool
short_at k at_nothing m = false
short_at k at_clock m = false
short_at k at_every_row m = false
short_at k (at_row s) m = k.follows s && (not (has s m.rows) && leb k.capacity (length m.rows))

acted_there : (follows : List ℕ → Bool) (e : Effect) (m : Market) → act follows (aim e) e m ≡ acted follows e m
acted_there follows nothing m = refl
acted_there follows (clock f) m = refl
acted_there follows clear m = refl
acted_there follows (row s c) m = refl

short_there : (k : Kind) (e : Effect) (m : Market) → short_at k (aim e) m ≡ short k e m
short_there k nothing m = refl
short_there k (clock f) m = refl
short_there k clear m = refl
short_there k (row s c) m = refl

-- the answer r and the view w are those that apply owes after the bytes x
pub record Outcome (v : View Market Kind) (x : List ℕ) (r : Bool) (w : View Market Kind) : Type 0 where
  pub answer : r ≡ not (full_for v x)
  pub effect : w ≡ applied v x

pub by_aim : (v : View Market Kind) (x : List ℕ) (e : Effect) (a : Aim) → e ≡ heard x → a ≡ aim e → Outcome v x (not (short_at v.kind a v.market)) (cond (short_at v.kind a v.market) v (with_market v (act v.kind.follows a e v.market)))
unfolding lacks after
by_aim v x e a is to =
    let k : Kind = v.kind in
    let m : Market = v.market in
    let l : short_at k a m ≡ full_for v x = ap (λ t. short_at k t m) to ∙ short_there k e m ∙ ap (λ d. short k d m) is in
    let n : act k.follows a e m ≡ after k.follows x m = ap (λ t. act k.follows t e m) to ∙ acted_there k.follows e m ∙ ap (λ d. acted k.follows d m) is in
    record {
      answer = ap not l;
      effect = ap (λ b. cond b v (with_market v (act k.follows a e m))) l ∙ ap (λ p. cond (full_for v x) v (with_market v p)) n;
    }

-- the same where there is room
pub by_aim_fits : (v : View Market Kind) (x : List ℕ) (e : Effect) (a : Aim) → e ≡ heard x → a ≡ aim e → short_at v.kind a v.market ≡ false → Outcome v x true (with_market v (act v.kind.follows a e v.market))
by_aim_fits v x e a is to fits =
    let P : Bool → Type 0 = λ b. Outcome v x (not b) (cond b v (with_market v (act v.kind.follows a e v.market))) in
    subst P fits (by_aim v x e a is to)
