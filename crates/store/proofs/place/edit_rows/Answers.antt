use Rattle.std.proofs.Common.{◌≡◌, ℕ, ◌+◌, ◌<◌, List, ◌++◌, map, length, get_or, take, drop, set, ap, ◌∙◌, arith}
use Rattle.std.proofs.lemmas.List.{get_or_default}
use Rattle.std.proofs.lemmas.List.Edits.{map_over_more}
use Rattle.market.specs.Aims.{does}
use Rattle.market.specs.Effects.{edited}
use Rattle.market.specs.declared.row.Row.{Row}
use Rattle.store.proofs.place.edit_rows.Goals as goal

one_more : (f : Row → Row) (xs ys : List Row) (i : ℕ) (d y : Row) → i < length xs → length ys ≡ length xs → ys ≡ map f (take i xs) ++ drop i xs → y ≡ f (get_or ys i d) → set ys i y ≡ map f (take (i + 1) xs) ++ drop (i + 1) xs
one_more f xs ys i d y lt long is e = ap (set ys i) e ∙ map_over_more f xs ys i (get_or ys i d) lt is (get_or_default ys i d (get_or ys i d) (omega arith))

pub loop-row-preserved : goal.loop-row-preserved
loop-row-preserved c =
    one_more (edited (does c.args.message.now)) c.args.rows.now c.loop-row.row-items c.loop-row.row-index _ _ (omega arith) c.loop-row.auto.row-items c.loop-row.invariant c.edit.ensures
