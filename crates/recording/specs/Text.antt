-- Words and the blanks between them. Assumes nothing.
use Rattle.std.specs.Prelude.{ℕ, Bool, true, cond, ◌||◌, List, [], ◌∷◌, Some, None, Option, ◌==◌}

-- space, tab, carriage return, line feed
abbrev pub blank : ℕ → Bool
blank b = b == 0x20 || b == 0x09 || b == 0x0D || b == 0x0A

-- the text behind the blanks in front of it
unfoldable pub unblanked : List ℕ → List ℕ
unblanked [] = []
unblanked (b ∷ bs) = cond (blank b) (unblanked bs) (b ∷ bs)

-- a word ends at the end of the text or at a blank
abbrev pub word_ends : List ℕ → Bool
word_ends [] = true
word_ends (b ∷ bs) = blank b

-- what stands behind a word that the text begins with, where the word ends there
unfoldable pub behind_word : List ℕ → List ℕ → Option (List ℕ)
behind_word [] rest = cond (word_ends rest) (Some rest) None
behind_word (w ∷ ws) [] = None
behind_word (w ∷ ws) (b ∷ bs) = cond (b == w) (behind_word ws bs) None
