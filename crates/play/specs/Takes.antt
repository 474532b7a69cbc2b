-- What a recorded block does to a book: it is checked, and then its messages are played unless they have no number. Assumes nothing.
use Rattle.std.specs.Prelude.{◌≡◌, ℕ, Bool, true, cond, not, List, Some, None, Ok, Err, Option, Result, ◌==◌}
use Rattle.market.specs.Market.{Kind, Market, View, applied_all, unbounded}
use Rattle.wire.specs.Blocks.{checked_for}
use Rattle.wire_messages.specs.Frames.{messages_of}
use Rattle.wire_types.specs.Refusals.{Refusal, and_then}
use Rattle.wire_types.specs.declared.header.Carrier.{Carrier}
use Rattle.wire_types.specs.declared.header.Carrier.TheVariants.{Datagram, Spin}
use Rattle.wire_types.specs.declared.header.Header.{Header}
use Rattle.play.specs.Plays.{outcome}
use Rattle.play.specs.declared.block.Played.{Played}
use Rattle.play.specs.declared.taking.Taken.{Taken}

-- a spin's messages are played, and those that have a number
abbrev pub plays : Carrier → Header → Bool
plays Datagram h = not (h.sequence == 0)
plays Spin h = true

-- an accepted block, with what became of its messages if they are played
abbrev pub accepted : Carrier → Header → List ℕ → View Market Kind → Taken
accepted carrier h block v = record { header = h; played = cond (plays carrier h) (Some (outcome v (messages_of block))) None }

abbrev pub taken : Carrier → Option ℕ → List ℕ → View Market Kind → Result Taken Refusal
taken carrier unit block v = and_then (checked_for carrier unit block) (λ h. Ok (accepted carrier h block v))

-- the book behind a block, by the answer of its check
abbrev pub after_check : Carrier → Result Header Refusal → List ℕ → View Market Kind → View Market Kind
after_check carrier (Ok h) block v = cond (plays carrier h) (applied_all v (messages_of block)) v
after_check carrier (Err f) block v = v

abbrev pub taken_in : Carrier → Option ℕ → List ℕ → View Market Kind → View Market Kind
taken_in carrier unit block v = after_check carrier (checked_for carrier unit block) block v

-- a block that was played, with no message declined, gives the fold of its messages
abbrev pub Folds : Option Played → List ℕ → View Market Kind → View Market Kind → Type 0
Folds (Some p) block v w = p.declined ≡ None → w ≡ unbounded v (messages_of block)
Folds None block v w = w ≡ v
