use Rattle.std.proofs.Common.{sym, ap, ◌∙◌}
use Rattle.std.proofs.lemmas.Bool.{both_ways, lt-ltb}
use Rattle.std.proofs.lemmas.Bool.Decides.{Decides-eqb}
use Rattle.std.proofs.lemmas.Slice.Eq.{slice_eq-Decides}
use Rattle.market.specs.Market.{ascends}
use Rattle.store.specs.Places.{position, sought}
use Rattle.store.proofs.Positions.{sought_here, sought_other}
use Rattle.store.proofs.store.Store.seek.Goals as goal

pub returns-in-Some : goal.returns-in-Some
returns-in-Some c =
    let s = c.args.symbol.now in
    let found = c.in-Some.ensures.lookup in
    let own = (slice_eq-Decides Decides-eqb c.in-Some.row.now.symbol s c.eq.result c.eq.ensures).0 c.if-eq.true in
    sought_here s c.used.result.now _ c.in-Some.row.now (c.place-at.ensures ∙ ap (position s) (sym c.used.ensures)) found.3.0 found.1 own ∙ ap (sought s) c.used.ensures

pub returns-in_default : goal.returns-in_default
returns-in_default c =
    let s = c.args.symbol.now in
    let found = c.in-Some.ensures.lookup in
    let equal = slice_eq-Decides Decides-eqb c.in-Some.row.now.symbol s c.eq.result c.eq.ensures in
    sought_other s c.used.result.now _ (ap ascends c.used.ensures ∙ c.args.self.now.sorted) (c.place-at.ensures ∙ ap (position s) (sym c.used.ensures))
    (λ d lt e. both_ways c.eq.result c.if-eq.false (equal.1 (ap (λ r. r.symbol) (found.3.1 d) ∙ e)))
    ∙ ap (sought s) c.used.ensures

pub returns-in_default-2 : goal.returns-in_default-2
returns-in_default-2 c =
    let s = c.args.symbol.now in
    let none = rw c.in_default.is at c.get.ensures.lookup in
    sought_other s c.used.result.now _ (ap ascends c.used.ensures ∙ c.args.self.now.sorted) (c.place-at.ensures ∙ ap (position s) (sym c.used.ensures))
    (λ d lt e. both_ways _ (sym none.0) (lt-ltb _ _ lt))
    ∙ ap (sought s) c.used.ensures
