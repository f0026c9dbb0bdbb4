use Rattle.std.proofs.Common.{◌<◌, ◌≤◌, length}
use Rattle.std.specs.List.{AllWithin}
use Rattle.sw_types.specs.declared.ordering.Group.{Group}
use Rattle.sw_types.proofs.ordering.Walk.groups_until.Given as goal

-- the groups from the count on begin later
abbrev pub invariant-loop-count : goal.invariant-loop-count
invariant-loop-count l = (l.count ≤ length l.groups)
    × AllWithin (λ (group : Group). l.place < group.first) l.groups l.count (length l.groups)

abbrev pub decreases-loop-count : goal.decreases-loop-count
decreases-loop-count l = l.count
