-- Symbols in hex digits. Assumes nothing.
use Rattle.std.specs.Prelude.{ℕ, List, ◌++◌, slice_index}
use Rattle.wire_words.specs.Bytes.{hex_byte}

-- six bytes in a row
abbrev pub hex_symbol : List ℕ → List ℕ
hex_symbol s =
    hex_byte (slice_index s 0) ++ (hex_byte (slice_index s 1) ++ (hex_byte (slice_index s 2)
    ++ (hex_byte (slice_index s 3) ++ (hex_byte (slice_index s 4) ++ hex_byte (slice_index s 5)))))
