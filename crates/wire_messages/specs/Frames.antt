-- Bytes cut into messages, each as long as its Length says. Assumes nothing.
use Rattle.std.specs.Prelude.{ℕ, zero, suc, List, [], ◌∷◌, length, drop, Ok, Err, Result, slice_index}
use Rattle.wire_messages.specs.Forms.{frame}
use Rattle.wire_types.specs.Refusals.{Breach}

-- a message that was cut off the bytes, and what the rest of them holds
abbrev pub in_front : Result (List ℕ) Breach → List ℕ → (List ℕ → List (List ℕ)) → List (List ℕ)
in_front (Ok m) bytes more = m ∷ more (drop (length m) bytes)
in_front (Err e) bytes more = []

-- the first k messages of the bytes, as far as they are whole
unfoldable pub framed : ℕ → List ℕ → List (List ℕ)
framed zero bytes = []
framed (suc k) bytes = in_front (frame bytes) bytes (λ rest. framed k rest)

-- the messages of a block, as many as Hdr Count says
abbrev pub messages_of : List ℕ → List (List ℕ)
messages_of block = framed (slice_index block 2) (drop 8 block)
