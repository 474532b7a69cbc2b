-- Which of a block's messages did not fit. Assumes nothing.
use Rattle.std.specs.Prelude.{◌≡◌, ℕ, ◌+◌, cond, List, [], ◌∷◌, Some, None, Option}
use Rattle.std.specs.Option.{option_map}
use Rattle.market.specs.Market.{Market, Kind, View, full_for, applied}
use Rattle.wire.specs.Laws.{Accepted}
use Rattle.wire_messages.specs.Frames.{messages_of}
use Rattle.wire_types.specs.declared.header.Carrier.{Carrier}
use Rattle.wire_types.specs.declared.header.Header.{Header}
use Rattle.play.specs.declared.block.Played.{Played}

-- how many of the messages find the book full, each after those before it
unfoldable pub count_declined : View Market Kind → List (List ℕ) → ℕ
count_declined v [] = 0
count_declined v (x ∷ xs) = cond (full_for v x) 1 0 + count_declined (applied v x) xs

-- the place of the first of them, the first message standing at place i
unfoldable pub first_declined : ℕ → View Market Kind → List (List ℕ) → Option ℕ
first_declined i v [] = None
first_declined i v (x ∷ xs) = cond (full_for v x) (Some i) (first_declined (i + 1) (applied v x) xs)

-- none of them is the first exactly where there are none
abbrev pub NoneIsFirstOfNone : Type 0
NoneIsFirstOfNone = (i : ℕ) (v : View Market Kind) (xs : List (List ℕ)) → (first_declined i v xs ≡ None → count_declined v xs ≡ 0) × (count_declined v xs ≡ 0 → first_declined i v xs ≡ None)

-- how many and the first of them, if there is one
abbrev pub outcome : View Market Kind → List (List ℕ) → Played
outcome v xs = record { declined = option_map (λ i. record { count = count_declined v xs; first = i }) (first_declined 0 v xs) }

-- of an accepted block every message is played
abbrev pub AllOfAccepted : List ℕ → Type 0
AllOfAccepted block = (carrier : Carrier) (unit : ℕ) (h : Header) (a : Accepted carrier unit block h) → messages_of block ≡ a.messages
