use Rattle.std.proofs.Common.{◌≡◌, ◌∙◌, ℕ, List, [], ◌∷◌, length, take, refl, ap, arith}
use Rattle.std.proofs.Output.{has_written_of_eq}
use Rattle.std.specs.List.{flat_map}
use Rattle.std.proofs.lemmas.List.{take_all}
use Rattle.wire_words.specs.Bytes.{hex_byte}
use Rattle.row_lines.specs.Hex.{hex_symbol}
use Rattle.row_lines.proofs.hex.HexSymbolDisplay.fmt.Goals as goal

six : (s : List ℕ) → length s ≡ 6 → flat_map hex_byte s ≡ hex_symbol s
six (a ∷ b ∷ c ∷ d ∷ e ∷ f ∷ []) h = refl
six [] h = absurd (omega arith)
six (a ∷ []) h = absurd (omega arith)
six (a ∷ b ∷ []) h = absurd (omega arith)
six (a ∷ b ∷ c ∷ []) h = absurd (omega arith)
six (a ∷ b ∷ c ∷ d ∷ []) h = absurd (omega arith)
six (a ∷ b ∷ c ∷ d ∷ e ∷ []) h = absurd (omega arith)
six (a ∷ b ∷ c ∷ d ∷ e ∷ f ∷ x ∷ s) h = absurd (omega arith)

pub returns-clause-writes : goal.returns-clause-writes
returns-clause-writes g c =
    λ plain _.
    let symbol = c.args.self.now.0 in
    let all : take c.loop-byte.byte-index symbol ≡ symbol = take_all c.loop-byte.byte-index symbol (omega arith) in
    has_written_of_eq g.W.Write.write_str_gives _ _ _ _ (ap (flat_map hex_byte) all ∙ six symbol (omega arith)) (c.loop-byte.invariant plain)
