use Rattle.std.proofs.Common.{◌≡◌, get_or, drop, ap, ◌∙◌, lit<}
use Rattle.std.proofs.lemmas.List.{get_or-take}
use Rattle.market.specs.Market.{applied_all, unbounded}
use Rattle.wire_messages.specs.Frames.{framed, messages_of}
use Rattle.play.specs.Plays.{first_declined, outcome}
use Rattle.play.proofs.Frames.{too_short, all_of_accepted}
use Rattle.play.proofs.Totals.{fold_of}
use Rattle.play.proofs.block.play_block.Goals as goal

pub returns-in_default : goal.returns-in_default
unfolding applied_all first_declined
returns-in_default g c =
    let v = g.B.Book.view c.args.book.now in
    let none = too_short c.args.block.now c.in_default.ensures.cases in
    let book : v ≡ applied_all v (messages_of c.args.block.now) = ap (applied_all v) none in
    let played : c.default.result ≡ outcome v (messages_of c.args.block.now) = ap (λ o. record { declined = o }) c.default.ensures ∙ ap (outcome v) none in
    record { book = book; played = played; all = all_of_accepted c.args.block.now; fold = fold_of v _ _ _ book played }

pub returns-clause-all : goal.returns-clause-all
returns-clause-all g c = all_of_accepted c.args.block.now

pub returns-clause-fold : goal.returns-clause-fold
returns-clause-fold g c none =
    let v = g.B.Book.view c.args.book.now in
    let block = c.args.block.now in
    let split = c.in-Some.ensures.cases in
    let count = ap (λ h. get_or h 2 0) split.0 ∙ get_or-take 8 block 2 0 (lit< tt) in
    fold_of v _ _ _ c.play_messages.ensures.book c.play_messages.ensures.played none
    ∙ ap (λ b. unbounded v (framed (get_or c.in-Some.header.now 2 0) b)) split.1
    ∙ ap (λ k. unbounded v (framed k (drop 8 block))) count
