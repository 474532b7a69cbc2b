use Rattle.std.proofs.Common.{◌%◌, ◌∙◌, nat_abs, ◌≡◌, to_z-of_z, arith}
use Rattle.std.proofs.Output.{has_written_of_eq}
use Rattle.std.proofs.Math.Nat.{one-le-pow}
use Rattle.std.specs.Fmt.{styled_decimal}
use Rattle.wire_words.specs.Decimals.{last_digits}
use Rattle.wire_words.proofs.Digits.{padded_rest, none, whole}
use Rattle.wire_words.proofs.decimal.DecimalDisplay.fmt.Goals as goal

pub nonzero_div-whole : goal.nonzero_div-whole
nonzero_div-whole g c = omega (arith, one-le-pow c.args.self.now.places 10 (omega arith), c.pow-unit.ensures)

pub nonzero_rem-rest : goal.nonzero_rem-rest
nonzero_rem-rest g c = omega (arith, one-le-pow c.args.self.now.places 10 (omega arith), c.pow-unit.ensures)

pub returns-in-0-clause-writes : goal.returns-in-0-clause-writes
returns-in-0-clause-writes g c =
    λ plain ok.
    let self = c.args.self.now in
    let n = c.unsigned_abs-size.result in
    let size : n ≡ nat_abs self.value = grind (arith, to_z-of_z) in
    has_written_of_eq g.W.Write.write_str_gives _ _ _ _ (whole self.places self.value n _ _ _ size c.pow-unit.ensures c.sign-sign.ensures (none self.places n c.in-0.is))
    (c.write.ensures.writes plain ok)

pub returns-in_default-clause-writes : goal.returns-in_default-clause-writes
returns-in_default-clause-writes g c =
    λ plain ok.
    let self = c.args.self.now in
    let n = c.unsigned_abs-size.result in
    let size : n ≡ nat_abs self.value = grind (arith, to_z-of_z) in
    let digits : styled_decimal c.laid_out.result (n % c.pow-unit.result) ≡ last_digits self.places n =
    (λ i. styled_decimal (c.laid_out.ensures i) (n % c.pow-unit.ensures i)) ∙ padded_rest self.places n (omega arith) (omega arith) in
    has_written_of_eq g.W.Write.write_str_gives _ _ _ _ (whole self.places self.value n _ _ _ size c.pow-unit.ensures c.sign-sign.ensures digits)
    (c.write-in_default.ensures.writes plain ok)
