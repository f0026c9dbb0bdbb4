use Rattle.std.proofs.Common.{◌≡◌, ◌++◌, drop}
use Rattle.sw_region_ops.specs.Groups.{send_each}
use Rattle.sw_region_ops.proofs.groups.send_each.Given as goal

abbrev pub invariant-loop-mark : goal.invariant-loop-mark
invariant-loop-mark l =
    l.ops ++ send_each l.code l.site (drop l.mark-index l.marks)
    ≡ l.fn.ops ++ send_each l.code l.site l.marks
