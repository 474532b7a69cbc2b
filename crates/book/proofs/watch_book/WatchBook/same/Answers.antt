use Rattle.book.proofs.Watches.{same_follows}
use Rattle.book.proofs.watch_book.WatchBook.same.Goals as goal

pub returns-clause-answer : goal.returns-clause-answer
returns-clause-answer c = same_follows c.args.self.now.symbol c.args.other.now.symbol c.follows.result c.follows.ensures
