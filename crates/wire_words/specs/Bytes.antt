-- Bytes, symbols and letters as text. Assumes nothing.
use Rattle.std.specs.Prelude.{ℕ, ◌+◌, ◌/◌, ◌%◌, cond, List, [], ◌∷◌, ◌++◌, codes, nat_lt, encode_utf8}
use Rattle.std.specs.Char.{is_ascii_graphic}
use Rattle.std.specs.List.{flat_map}

-- 0 to 9, a to f
abbrev pub hex_digit : ℕ → ℕ
hex_digit d = cond (nat_lt d 10) (48 + d) (87 + d)

abbrev pub hex_byte : ℕ → List ℕ
hex_byte b = hex_digit (b / 16) ∷ hex_digit (b % 16) ∷ []

-- the characters of the bytes' numbers, between double quotes
abbrev pub symbol_words : List ℕ → List ℕ
symbol_words s = codes "\"" ++ (flat_map encode_utf8 s ++ codes "\"")

-- a printable byte but a blank as it is, any other by its number
abbrev pub letter_words : ℕ → List ℕ
letter_words b = cond (is_ascii_graphic b) (b ∷ []) (codes "0x" ++ hex_byte b)
