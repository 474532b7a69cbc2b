use Rattle.std.proofs.Common.{ap, ◌∙◌}
use Rattle.market.specs.Aims.{does}
use Rattle.market.specs.Effects.{at_nothing, at_clock, at_every_row, at_row, edited}
use Rattle.market.specs.Market.{upsert}
use Rattle.market.proofs.Applied.{viewed, viewed_as, by_aim}
use Rattle.store.specs.Stores.{full, size, used}
use Rattle.book.specs.Kinds.{board_kind}
use Rattle.book.specs.Views.{board_view}
use Rattle.book.proofs.Boards.{sound, sound_upserted, viewed_cond}
use Rattle.book.proofs.board_book.BoardBook.apply.Goals as goal

pub invariant_of-self-in-Row : goal.invariant_of-self-in-Row
invariant_of-self-in-Row c =
    let b = c.args.self.now in
    let e = c.edit_one.ensures in
    let s = sound_upserted b.store c.edit_one.new.self (sound b) e.spare e.size e.grows in
    record { some = s.some; few = s.few; rest = s.rest }

pub returns-in-Nothing : goal.returns-in-Nothing
returns-in-Nothing c =
    let o = by_aim (board_view c.args.self.now) c.args.message.now (does c.hear-message.result) at_nothing c.hear-message.ensures c.in-Nothing.ensures in
    record { answer = o.answer; effect = o.effect }

pub returns-in-Clock : goal.returns-in-Clock
returns-in-Clock c =
    let b = c.args.self.now in
    let o = by_aim (board_view b) c.args.message.now (does c.hear-message.result) at_clock c.hear-message.ensures c.in-Clock.ensures in
    record { answer = o.answer; effect = ap (λ k. viewed k (used b.store) (board_kind (size b.store))) c.tick.ensures ∙ o.effect }

pub returns-in-EveryRow : goal.returns-in-EveryRow
returns-in-EveryRow c =
    let b = c.args.self.now in
    let e = c.edit_all.ensures in
    let o = by_aim (board_view b) c.args.message.now (does c.hear-message.result) at_every_row c.hear-message.ensures c.in-EveryRow.ensures in
    record { answer = o.answer; effect = viewed_as b.clock _ _ _ _ e.used (ap board_kind e.size) ∙ o.effect }

pub returns-in-Row : goal.returns-in-Row
returns-in-Row c =
    let b = c.args.self.now in
    let s = c.in-Row.symbol.now in
    let x = does c.hear-message.result in
    let e = c.edit_one.ensures in
    let o = by_aim (board_view b) c.args.message.now x (at_row s) c.hear-message.ensures c.in-Row.ensures in
    record {
      answer = e.answer ∙ o.answer;
      effect = viewed_as b.clock _ _ _ _ e.used (ap board_kind e.size) ∙ viewed_cond b.clock (full s b.store) (used b.store) (upsert s (edited x) (used b.store)) (board_kind (size b.store)) ∙ o.effect;
    }
