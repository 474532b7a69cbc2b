-- The order of symbols: byte by byte, the first byte first. Assumes nothing.
use Rattle.std.specs.Prelude.{ℕ, Bool, List}
use Rattle.std.specs.declared.cmp.Ordering.{Ordering}
use Rattle.std.specs.Cmp.Lexicographic.{slice_cmp}
use Rattle.std.specs.Ordering.{is_eq, is_lt, nat_cmp}

-- how two lists of bytes stand to each other: the first byte in which they differ decides, and one that ends there comes first
unfoldable pub against : List ℕ → List ℕ → Ordering
against s t = slice_cmp nat_cmp s t

-- s stands before t
abbrev pub precedes : List ℕ → List ℕ → Bool
precedes s t = is_lt (against s t)

-- s is t
abbrev pub same : List ℕ → List ℕ → Bool
same s t = is_eq (against s t)
