use Rattle.std.proofs.Common.{◌≡◌, ◌≤◌, length}
use Rattle.sw_value.specs.Reach.{reach}
use Rattle.sw_see_find.proofs.walking.race_items.Given as goal

-- the items lead to the state, and there is at most one for each turn
abbrev pub invariant-loop-taken : goal.invariant-loop-taken
invariant-loop-taken l = record {
  reached : l.walk.state ≡ reach l.graph l.walk.items.items;
  few : length l.walk.items.items ≤ l._taken;
}
