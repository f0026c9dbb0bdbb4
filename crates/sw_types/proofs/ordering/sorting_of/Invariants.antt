use Rattle.sw_types.specs.Walks.{AllWait, IsWalk, steps_left}
use Rattle.sw_types.proofs.ordering.sorting_of.Given as goal

abbrev pub invariant-loop-target : goal.invariant-loop-target
invariant-loop-target l = IsWalk l.edges l.walk × AllWait l.walk

abbrev pub decreases-loop-target : goal.decreases-loop-target
decreases-loop-target l = steps_left l.edges l.walk
