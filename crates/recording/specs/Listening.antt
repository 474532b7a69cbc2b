-- What a line of a recording does to what listens. Assumes nothing.
use Rattle.std.specs.Prelude.{◌≡◌, ℕ, List, ◌++◌, Option, Result, Ok, Err, codes, decimal}
use Rattle.wire_types.specs.Words.{carrier_word}
use Rattle.wire_types.specs.declared.header.Carrier.{Carrier}
use Rattle.recording.specs.Lines.{Said, nothing, of_unit, block}
use Rattle.recording.specs.declared.line.BadLine.{BadLine}

-- a block, and a line that is not understood, do what the listener says of them; nothing else is heard
abbrev pub Hears : {S : Type 0} → (S → Option ℕ → Carrier → List ℕ → S → Type 0) → (S → S → Type 0) → Result Said BadLine → Option ℕ → S → S → Type 0
Hears block_gives bad_gives (Ok nothing) unit s t = t ≡ s
Hears block_gives bad_gives (Ok (of_unit n)) unit s t = t ≡ s
Hears block_gives bad_gives (Ok (block carrier bytes)) unit s t = block_gives s unit carrier bytes t
Hears block_gives bad_gives (Err bad) unit s t = bad_gives s t

-- the line of a block, and how many bytes stand there
abbrev pub heading : ℕ → Carrier → ℕ → List ℕ
heading number carrier size = codes "line " ++ (decimal number ++ (codes ": " ++ (carrier_word carrier ++ (codes " of " ++ (decimal size ++ codes " bytes")))))
