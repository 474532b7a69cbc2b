-- What may be absent, as text. Assumes nothing.
use Rattle.std.specs.Prelude.{ℕ, List, Option, None, Some, codes}

-- the text of what is there, or a dash
abbrev pub or_dash : {A : Type 0} → (A → Option (List ℕ)) → Option A → Option (List ℕ)
or_dash text None = Some (codes "-")
or_dash text (Some x) = text x
