use Rattle.std.proofs.Common.{◌≡◌, length}
use Rattle.sw_types.specs.Walks.{IsWalk, steps_left}
use Rattle.sw_types.proofs.ordering.Walk.settle_last.Given as goal

abbrev pub invariant-loop-group : goal.invariant-loop-group
invariant-loop-group l = IsWalk l.edges l.self
    × (steps_left l.edges l.self ≡ steps_left l.edges l.fn.self)

abbrev pub decreases-loop-group : goal.decreases-loop-group
decreases-loop-group l = length l.self.groups
