use Rattle.book.proofs.Boards.{rest_is_blank}
use Rattle.book.proofs.Watches.{watch_always_fits}
use Rattle.book.proofs.laws.books_hold.Goals as goal

pub returns : goal.returns
returns c = record { blank = rest_is_blank; fits = watch_always_fits }
