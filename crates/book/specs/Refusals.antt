-- The refusals of books by their numbers, and what each tells. Assumes nothing.
use Rattle.std.specs.Prelude.{ℕ, List, ◌++◌, Some, None, Option, codes, decimal}
use Rattle.book.specs.declared.refusal.BookRefusal.{BookRefusal}
use Rattle.book.specs.declared.refusal.BookRefusal.TheVariants as the_refusal

-- what is told where a book cannot be made: the number, and the byte of a symbol
pub record Told : Type 0 where
  pub number : ℕ
  pub byte : Option ℕ

abbrev pub told : BookRefusal → Told
told the_refusal.RowCount = record { number = 2; byte = None }
told (the_refusal.Symbol b) = record { number = 10; byte = Some b }

-- in words: the number, and the byte at fault
abbrev pub refusal_words : BookRefusal → List ℕ
refusal_words the_refusal.RowCount = codes "refused " ++ decimal 2
refusal_words (the_refusal.Symbol b) = codes "refused " ++ (decimal 10 ++ (codes " byte " ++ decimal b))
