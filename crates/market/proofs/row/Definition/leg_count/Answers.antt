use Rattle.std.proofs.Common.{◌≡◌, cond, List, [], ◌∷◌, Option, Some, None, is_some, count_by, length, refl, ◌∙◌, rules, arith}
use Rattle.market.specs.Legs.{leg_count, one}
use Rattle.market.proofs.row.Definition.leg_count.Goals as goal

counts_one : {A : Type 0} (o : Option A) → cond (is_some o) 1 0 ≡ one o
counts_one None = refl
counts_one (Some x) = refl

counted : {A : Type 0} (ls : List (Option A)) → length ls ≡ 4 → count_by (λ x. is_some x) ls ≡ leg_count ls
counted (a ∷ b ∷ c ∷ d ∷ []) e = omega (arith, counts_one a, counts_one b, counts_one c, counts_one d)
counted [] e = absurd (omega arith)
counted (a ∷ []) e = absurd (omega arith)
counted (a ∷ b ∷ []) e = absurd (omega arith)
counted (a ∷ b ∷ c ∷ []) e = absurd (omega arith)
counted (a ∷ b ∷ c ∷ d ∷ x ∷ ls) e = absurd (omega arith)

pub returns : goal.returns
returns c =
    let legs = c.args.self.now.legs in
    let by_test : c.count.result ≡ count_by (λ x. is_some x) legs = search rules in
    by_test ∙ counted legs (omega arith)
