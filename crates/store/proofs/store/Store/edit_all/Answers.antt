use Rattle.std.proofs.Common.{◌≡◌, length, drop, ap, ◌∙◌, length-append, arith}
use Rattle.std.proofs.lemmas.List.{length-take-le, take_at}
use Rattle.market.specs.Aims.{does}
use Rattle.market.specs.Effects.{edited}
use Rattle.market.specs.Market.{ascends}
use Rattle.market.proofs.Held.{edited_keeps}
use Rattle.market.proofs.Rows.{ascends_map}
use Rattle.store.specs.Stores.{used}
use Rattle.store.proofs.store.Store.edit_all.Goals as goal

pub invariant_of-self : goal.invariant_of-self
invariant_of-self c =
    let st = c.args.self.now in
    let e = does c.args.message.now in
    let long : length c.edit_rows.new.rows ≡ st.count = c.edit_rows.auto.rows ∙ length-take-le st.count st.rows.now st.within in
    record {
      within = simp length-append (omega arith);
      sorted = ap ascends (take_at c.edit_rows.new.rows (drop st.count st.rows.now) st.count long) ∙ ap ascends c.edit_rows.ensures ∙ ascends_map (edited e) (edited_keeps e) (used st) ∙ st.sorted;
    }
