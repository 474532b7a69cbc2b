use Rattle.std.proofs.Common.{◌<◌, length, sym, ap, ◌∙◌, arith, length-set, rules}
use Rattle.std.proofs.lemmas.List.{length-take-le}
use Rattle.std.proofs.lemmas.Bool.{cond-false}
use Rattle.market.specs.Aims.{does}
use Rattle.market.specs.Effects.{edited}
use Rattle.market.specs.Market.{ascends}
use Rattle.market.proofs.Held.{edited_keeps}
use Rattle.market.proofs.Rows.{ascends_upsert}
use Rattle.store.specs.Stores.{full, used}
use Rattle.store.proofs.Steps.{found, missed, sets_row, makes_row, not_full_found, not_full_missed}
use Rattle.store.proofs.store.Store.edit_one.Goals as goal

pub bounds-rows-at : goal.bounds-rows-at
bounds-rows-at c =
    let st = c.args.self.now in
    let there = found c.args.symbol.now (used st) c.in-Ok.at st.sorted c.in-Ok.ensures in
    omega (arith, length-take-le st.count st.rows.now st.within)

pub offset_bounds-rows-at : goal.offset_bounds-rows-at
offset_bounds-rows-at c =
    let st = c.args.self.now in
    let there = found c.args.symbol.now (used st) c.in-Ok.at st.sorted c.in-Ok.ensures in
    let inside : c.in-Ok.at < length st.rows.now = omega (arith, length-take-le st.count st.rows.now st.within) in
    search rules

pub invariant_of-self : goal.invariant_of-self
invariant_of-self c =
    let st = c.args.self.now in
    let s = c.args.symbol.now in
    let e = does c.args.message.now in
    let set = sets_row s (edited e) st.rows.now st.count c.in-Ok.at _ _ st.within st.sorted c.in-Ok.ensures c.edit.ensures in
    record { within = simp length-set (omega arith); sorted = ap ascends set.used ∙ ascends_upsert s (edited e) (edited_keeps e) (used st) st.sorted }

pub returns-in-Ok-clause-used : goal.returns-in-Ok-clause-used
returns-in-Ok-clause-used c =
    let st = c.args.self.now in
    let s = c.args.symbol.now in
    let e = does c.args.message.now in
    let set = sets_row s (edited e) st.rows.now st.count c.in-Ok.at _ _ st.within st.sorted c.in-Ok.ensures c.edit.ensures in
    set.used ∙ sym (cond-false (full s st) _ _ (not_full_found _ _ _ set.there))

pub returns-in-Ok-clause-spare : goal.returns-in-Ok-clause-spare
returns-in-Ok-clause-spare c =
    let st = c.args.self.now in
    let e = does c.args.message.now in
    let set = sets_row c.args.symbol.now (edited e) st.rows.now st.count c.in-Ok.at _ _ st.within st.sorted c.in-Ok.ensures c.edit.ensures in
    set.spare

pub insert-requires-clause-place : goal.insert-requires-clause-place
insert-requires-clause-place c =
    let st = c.args.self.now in
    let there = missed c.args.symbol.now (used st) c.in-Err.at c.in-Err.ensures in
    omega (arith, length-take-le st.count st.rows.now st.within)

pub invariant_of-self-in-Err : goal.invariant_of-self-in-Err
invariant_of-self-in-Err c =
    let st = c.args.self.now in
    let s = c.args.symbol.now in
    let e = does c.args.message.now in
    let made = makes_row s (edited e) st.rows.now c.insert.new.rows st.count c.in-Err.at _ st.within c.in-Err.ensures (c.edit-in-Err.ensures ∙ ap (edited e) c.new-row.ensures) c.insert.ensures in
    record { within = omega (arith, c.insert.auto.rows); sorted = ap ascends made.used ∙ ascends_upsert s (edited e) (edited_keeps e) (used st) st.sorted }

pub returns-else-count-self-clause-used : goal.returns-else-count-self-clause-used
returns-else-count-self-clause-used c =
    let st = c.args.self.now in
    let s = c.args.symbol.now in
    let e = does c.args.message.now in
    let made = makes_row s (edited e) st.rows.now c.insert.new.rows st.count c.in-Err.at _ st.within c.in-Err.ensures (c.edit-in-Err.ensures ∙ ap (edited e) c.new-row.ensures) c.insert.ensures in
    made.used ∙ sym (cond-false (full s st) _ _ (not_full_missed _ _ _ made.none (omega (arith, length-take-le st.count st.rows.now st.within))))
