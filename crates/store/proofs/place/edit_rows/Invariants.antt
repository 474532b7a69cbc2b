use Rattle.std.proofs.Common.{◌≡◌, ◌++◌, map, take, drop}
use Rattle.market.specs.Aims.{does}
use Rattle.market.specs.Effects.{edited}
use Rattle.store.proofs.place.edit_rows.Given as goal

abbrev pub invariant-loop-row : goal.invariant-loop-row
invariant-loop-row l =
    l.row-items ≡ map (edited (does l.message)) (take l.row-index l.initial.row-items) ++ drop l.row-index l.initial.row-items
