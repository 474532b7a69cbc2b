-- Prices in ten-thousandths, and quotes. Assumes nothing.
use Rattle.std.specs.Prelude.{ℕ, ◌+◌, List, [], ◌∷◌, ◌≡◌, ℤ, pos, negsuc, ◌*ℤ◌}
use Rattle.wire_types.specs.Numbers.{le, signed}
use Rattle.wire_types.specs.declared.quote.Quote.{Quote}

-- eight signed bytes in ten-thousandths
abbrev pub long_price : List ℕ → ℕ → ℤ
long_price m at = signed 8 (le 8 m at)

-- two signed bytes in hundredths
abbrev pub short_price : List ℕ → ℕ → ℤ
short_price m at = signed 2 (le 2 m at) *ℤ pos 100

-- the two ends of the short price: 0x8000 and 0x7FFF
abbrev pub ShortPriceEnds : Type 0
ShortPriceEnds = (short_price (0x00 ∷ 0x80 ∷ []) 0 ≡ negsuc 3276799) × (short_price (0xFF ∷ 0x7F ∷ []) 0 ≡ pos 3276700)

-- a price of n bytes and a quantity behind it
abbrev pub quote_at : (List ℕ → ℕ → ℤ) → ℕ → (List ℕ → ℕ → ℕ) → List ℕ → ℕ → Quote
quote_at price n quantity m at = record { price = price m at; quantity = quantity m (at + n) }

-- a short price and two bytes of quantity
abbrev pub short_quote : List ℕ → ℕ → Quote
short_quote = quote_at short_price 2 (le 2)

-- a long price and four bytes of quantity
abbrev pub long_quote : List ℕ → ℕ → Quote
long_quote = quote_at long_price 8 (le 4)
