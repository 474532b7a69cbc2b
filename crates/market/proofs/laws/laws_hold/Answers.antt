use Rattle.market.proofs.Held.{rows_stay_ascending, touches_one_thing, broken_does_nothing, nothing_changes_nothing, clock_is_set, clear_resets_all, own_row_is_set, unfollowed_changes_nothing, finds_exactly, known_always_fits, unbounded_is_fold}
use Rattle.market.proofs.laws.laws_hold.Goals as goal

pub returns : goal.returns
returns c = record {
  ascending = rows_stay_ascending;
  touches = touches_one_thing;
  broken = broken_does_nothing;
  nothing = nothing_changes_nothing;
  clock = clock_is_set;
  clear = clear_resets_all;
  own = own_row_is_set;
  unfollowed = unfollowed_changes_nothing;
  found = finds_exactly;
  fits = known_always_fits;
  fold = unbounded_is_fold;
}
