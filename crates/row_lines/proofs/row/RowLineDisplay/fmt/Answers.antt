use Rattle.std.proofs.Common.{Some, codes, refl, subst}
use Rattle.std.specs.Fmt.{DisplaysOnOk, ◌++?◌}
use Rattle.wire_words.proofs.Dashes.{mapped}
use Rattle.row_lines.specs.Hex.{hex_symbol}
use Rattle.row_lines.specs.Instruments.{definition_part}
use Rattle.row_lines.specs.Parts.{quotes_part, settlement_part, limits_part}
use Rattle.row_lines.proofs.row.RowLineDisplay.fmt.Goals as goal

pub returns-clause-writes : goal.returns-clause-writes
returns-clause-writes g c =
    let row = c.args.self.now.0.now in
    let settlement = mapped settlement_part (λ x. x.0) row.settlement c.map.result c.map.ensures.cases refl in
    let limits = mapped limits_part (λ x. x.0) row.limits c.map-2.result c.map-2.ensures.cases refl in
    let definition = mapped definition_part (λ x. x.0) row.definition c.map-3.result c.map-3.ensures.cases refl in
    subst (λ o. DisplaysOnOk g.W.Write.write_str_gives c.args.f.now c.write.result o c.write.new.self)
    (λ i. Some (codes "row ") ++? Some (hex_symbol row.symbol) ++? Some (codes " ") ++? Some (quotes_part row.quotes) ++? Some (codes " settlement ") ++? settlement i ++? Some (codes " limits ") ++? limits i ++? Some (codes " definition ") ++? definition i)
    c.write.ensures.writes
