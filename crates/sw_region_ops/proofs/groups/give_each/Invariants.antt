use Rattle.std.proofs.Common.{◌≡◌, ◌++◌, drop}
use Rattle.sw_region_ops.specs.Groups.{give_each}
use Rattle.sw_region_ops.proofs.groups.give_each.Given as goal

abbrev pub invariant-loop-mark : goal.invariant-loop-mark
invariant-loop-mark l =
    l.ops ++ give_each l.site (drop l.mark-index l.marks) ≡ l.fn.ops ++ give_each l.site l.marks
