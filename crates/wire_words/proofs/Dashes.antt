-- What may be absent, each value printed by a wrapper of it. Assumes nothing.
use Rattle.std.proofs.Common.{◌≡◌, ℕ, List, Option, None, Some, codes, sym, ap, ◌∙◌}
use Rattle.std.specs.Option.{MatchOption, IsSomeAnd}
use Rattle.wire_words.specs.Dashes.{or_dash}

pub mapped : {A B : Type 0} (words : Option A → List ℕ) (inner : B → A) (o : Option A) (r : Option B) → MatchOption o (r ≡ None) (λ x. IsSomeAnd r (λ y. inner y ≡ x)) → words None ≡ codes "-" → or_dash (λ y. Some (words (Some (inner y)))) r ≡ Some (words o)
mapped words inner None r h dash = ap (or_dash (λ y. Some (words (Some (inner y))))) h ∙ ap (λ l. Some l) (sym dash)
mapped words inner (Some x) None h dash = absurd h
mapped words inner (Some x) (Some y) h dash = ap (λ z. Some (words (Some z))) h
