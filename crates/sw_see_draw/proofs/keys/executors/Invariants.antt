use Rattle.std.proofs.Common.{◌≡◌, ◌≤◌, length, take}
use Rattle.sw_see_draw.specs.Picture.{executors}
use Rattle.sw_see_draw.proofs.keys.executors.Given as goal

abbrev pub invariant-loop-mark : goal.invariant-loop-mark
invariant-loop-mark l =
    (l.all.items ≡ executors (take l.mark-index l.marks)) × (length l.all.items ≤ l.mark-index)
