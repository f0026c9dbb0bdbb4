use Rattle.std.proofs.Common.{◌≡◌, ◌++◌, drop}
use Rattle.sw_region_ops.specs.Groups.{need_each}
use Rattle.sw_region_ops.proofs.groups.need_each.Given as goal

abbrev pub invariant-loop-mark : goal.invariant-loop-mark
invariant-loop-mark l =
    l.ops ++ need_each (drop l.mark-index l.marks) ≡ l.fn.ops ++ need_each l.marks
