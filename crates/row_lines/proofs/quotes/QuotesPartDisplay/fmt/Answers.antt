use Rattle.std.proofs.Common.{Some, codes, decimal, refl, subst}
use Rattle.std.specs.Fmt.{DisplaysOnOk, ◌++?◌}
use Rattle.wire_words.proofs.Dashes.{mapped}
use Rattle.row_lines.specs.Codes.{status_letter}
use Rattle.row_lines.specs.Parts.{quote_part, trade_part}
use Rattle.row_lines.proofs.quotes.QuotesPartDisplay.fmt.Goals as goal

pub returns-clause-writes : goal.returns-clause-writes
returns-clause-writes g c =
    let quotes = c.args.self.now.0 in
    let bid = mapped quote_part (λ x. x.0) quotes.bid c.map.result c.map.ensures.cases refl in
    let ask = mapped quote_part (λ x. x.0) quotes.ask c.map-2.result c.map-2.ensures.cases refl in
    let last = mapped trade_part (λ x. x.0) quotes.last c.map-3.result c.map-3.ensures.cases refl in
    subst (λ o. DisplaysOnOk g.W.Write.write_str_gives c.args.f.now c.write.result o c.write.new.self)
    (λ i. Some (codes "bid ") ++? bid i ++? Some (codes " ask ") ++? ask i ++? Some (codes " last ") ++? last i ++? Some (codes " volume ") ++? Some (decimal quotes.volume) ++? Some (codes " status ") ++? Some (status_letter quotes.status))
    c.write.ensures.writes
