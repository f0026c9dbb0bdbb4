use Rattle.std.proofs.Common.{◌≡◌, ◌++◌, drop}
use Rattle.sw_region_ops.specs.Groups.{join_here}
use Rattle.sw_region_ops.proofs.groups.join_here.Given as goal

abbrev pub invariant-loop-mark : goal.invariant-loop-mark
invariant-loop-mark l =
    l.ops ++ join_here (drop l.mark-index l.marks) ≡ l.fn.ops ++ join_here l.marks
