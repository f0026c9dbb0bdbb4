use Rattle.std.proofs.Common.{◌≡◌, take}
use Rattle.sw_types.specs.Walks.{with_waiting}
use Rattle.sw_types.proofs.ordering.Walk.wait.Given as goal

abbrev pub invariant-loop-target : goal.invariant-loop-target
invariant-loop-target l = l.self ≡ with_waiting l.fn.self (take l.target-index l.targets)
