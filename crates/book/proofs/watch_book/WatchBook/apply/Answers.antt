use Rattle.std.proofs.Common.{[], ◌∷◌, map, Some, option_to_list, sym, ap, ◌∙◌}
use Rattle.std.proofs.lemmas.Bool.{both_ways}
use Rattle.market.specs.Aims.{does}
use Rattle.market.specs.Effects.{edited}
use Rattle.book.proofs.Watches.{on_nothing, on_clock, on_every_row, on_own_row, on_other_row}
use Rattle.book.proofs.watch_book.WatchBook.apply.Goals as goal

pub returns-in-Nothing : goal.returns-in-Nothing
returns-in-Nothing c =
    let o = on_nothing c.args.self.now c.args.message.now (does c.hear-message.result) c.hear-message.ensures c.in-Nothing.ensures in
    record { answer = o.answer; effect = o.effect }

pub returns-in-Clock : goal.returns-in-Clock
returns-in-Clock c =
    let o = on_clock c.args.self.now c.args.message.now (does c.hear-message.result) c.hear-message.ensures _ c.in-Clock.ensures c.tick.ensures in
    record { answer = o.answer; effect = o.effect }

pub returns-in-Some : goal.returns-in-Some
returns-in-Some c =
    let w = c.args.self.now in
    let e = does c.hear-message.result in
    let set = ap (λ r. r ∷ []) c.edit.ensures ∙ ap (λ o. map (edited e) (option_to_list o)) (sym c.in-Some.is) in
    let o = on_every_row w c.args.message.now e c.hear-message.ensures (Some c.edit.new.self) c.in-EveryRow.ensures set in
    record { answer = o.answer; effect = o.effect }

pub returns-in_default : goal.returns-in_default
returns-in_default c =
    let w = c.args.self.now in
    let e = does c.hear-message.result in
    let none = ap option_to_list c.in_default.is ∙ ap (λ o. map (edited e) (option_to_list o)) (sym c.in_default.is) in
    let o = on_every_row w c.args.message.now e c.hear-message.ensures w.row c.in-EveryRow.ensures none in
    record { answer = o.answer; effect = o.effect }

pub returns-in-Some-row : goal.returns-in-Some-row
returns-in-Some-row c =
    let own = c.follows.ensures.0 c.if-follows.true in
    let o = on_own_row c.args.self.now c.args.message.now (does c.hear-message.result) c.hear-message.ensures c.in-Row.symbol.now _ _ c.in-Row.ensures own c.in-Some-row.is c.edit-in-Some-row.ensures in
    record { answer = o.answer; effect = o.effect }

pub returns-in-None : goal.returns-in-None
returns-in-None c =
    let own = c.follows.ensures.0 c.if-follows.true in
    let o = on_own_row c.args.self.now c.args.message.now (does c.hear-message.result) c.hear-message.ensures c.in-Row.symbol.now _ _ c.in-Row.ensures own c.in-None.is c.make.ensures in
    record { answer = o.answer; effect = o.effect }

pub returns-else-follows : goal.returns-else-follows
returns-else-follows c =
    let w = c.args.self.now in
    let o = on_other_row w c.args.message.now (does c.hear-message.result) c.hear-message.ensures c.in-Row.symbol.now c.in-Row.ensures (λ same. both_ways c.follows.result c.if-follows.false (c.follows.ensures.1 same)) in
    record { answer = o.answer; effect = o.effect }
