use Rattle.std.proofs.Common.{◌≡◌, ◌++◌, drop}
use Rattle.sw_region_ops.specs.Groups.{free_each}
use Rattle.sw_region_ops.proofs.groups.free_each.Given as goal

abbrev pub invariant-loop-mark : goal.invariant-loop-mark
invariant-loop-mark l =
    l.ops ++ free_each l.code (drop l.mark-index l.marks) ≡ l.fn.ops ++ free_each l.code l.marks
