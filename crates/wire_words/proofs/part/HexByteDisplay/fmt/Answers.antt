use Rattle.std.proofs.Common.{◌-◌, ◌^◌, Option, List, ℕ, ap, false, Some, [], subst, arith}
use Rattle.std.proofs.lemmas.Fmt.{hex_byte}
use Rattle.std.specs.Fmt.{DisplaysOnOk, digits, format_spec, padded_integral, shown_prefix, radix_prefix}
use Rattle.std.specs.Option.{option_map}
use Rattle.wire_words.proofs.part.HexByteDisplay.fmt.Goals as goal

pub returns-clause-writes : goal.returns-clause-writes
returns-clause-writes g c =
    let spec = c.laid_out.ensures in
    let Prints : Option (List ℕ) → Type 0 = λ o. DisplaysOnOk g.W.Write.write_str_gives c.args.f.now c.write.result o c.write.new.self in
    let padded : Prints (Some (padded_integral (format_spec 32 0 4 2 (2 ^ 64 - 1)) false [] (digits 16 false c.args.self.now.0))) =
    subst Prints (λ i. option_map (padded_integral (spec i) false (shown_prefix (spec i) (radix_prefix c.in_radix.result.base))) (c.in_radix.ensures i)) c.write.ensures.writes in
    subst Prints (ap Some (hex_byte false c.args.self.now.0 (omega arith))) padded
