use Rattle.std.proofs.Common.{cond, is_some, None, unwrap_or, sym, refl, ap, ◌∙◌}
use Rattle.book.proofs.Watches.{find_is}
use Rattle.book.proofs.watch_book.WatchBook.find.Goals as goal

pub returns-then-follows : goal.returns-then-follows
returns-then-follows c =
    let w = c.args.self.now in
    let found = find_is c.args.symbol.now w.symbol w.row c.follows.result w.own c.follows.ensures ∙ ap (λ b. cond b w.row None) c.if-follows.true in
    record {
      answer = c.fill.ensures.answer ∙ c.as_ref.ensures.variant ∙ sym (ap is_some found);
      into = c.fill.ensures.into ∙ ap (λ o. unwrap_or o c.args.into.now) (c.as_ref.ensures.value ∙ sym found);
      unchanged = refl;
    }

pub returns-else-follows : goal.returns-else-follows
returns-else-follows c =
    let w = c.args.self.now in
    let none = find_is c.args.symbol.now w.symbol w.row c.follows.result w.own c.follows.ensures ∙ ap (λ b. cond b w.row None) c.if-follows.false in
    record {
      answer = c.if-follows.false ∙ sym (ap is_some none);
      into = sym (ap (λ o. unwrap_or o c.args.into.now) none);
      unchanged = refl;
    }
