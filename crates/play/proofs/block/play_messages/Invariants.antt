use Rattle.market.specs.Market.{applied_all}
use Rattle.wire_messages.specs.Frames.{framed}
use Rattle.play.specs.Plays.{outcome}
use Rattle.play.proofs.Totals.{Midway}
use Rattle.play.proofs.block.play_messages.Given as goal

-- what is left gives what the whole was to give
abbrev pub invariant-loop-place : goal.invariant-loop-place
invariant-loop-place g l =
    Midway l.count l.place l.rest (g.B.Book.view l.book) l.played
    (applied_all (g.B.Book.view l.initial.book) (framed l.count l.bytes))
    (outcome (g.B.Book.view l.initial.book) (framed l.count l.bytes))
