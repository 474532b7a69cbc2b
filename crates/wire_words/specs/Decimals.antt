-- Numbers with decimal places and quotes, as text. Assumes nothing.
use Rattle.std.specs.Prelude.{ℕ, zero, suc, ◌+◌, ◌/◌, ◌%◌, ◌^◌, cond, List, [], ◌∷◌, ◌++◌, ℤ, pos, negsuc, codes, decimal, ◌==◌}
use Rattle.wire_types.specs.declared.quote.Quote.{Quote}

-- the last k digits of n, zeros in front included
unfoldable pub last_digits : ℕ → ℕ → List ℕ
last_digits zero n = []
last_digits (suc k) n = (0x30 + n / 10 ^ k % 10) ∷ last_digits k n

-- n units of the last of k places
abbrev pub pointed : ℕ → ℕ → List ℕ
pointed k n = decimal (n / 10 ^ k) ++ (codes "." ++ last_digits k n)

-- the same, with the sign in front
abbrev pub decimal_words : ℕ → ℤ → List ℕ
decimal_words k (pos n) = pointed k n
decimal_words k (negsuc n) = codes "-" ++ pointed k (suc n)

-- a price in ten-thousandths for a quantity, or none
abbrev pub quote_words : Quote → List ℕ
quote_words q = cond (q.quantity == 0) (codes "none") (decimal_words 4 q.price ++ (codes " for " ++ decimal q.quantity))
