use Rattle.std.proofs.Common.{◌≡◌, ◌≤◌, fold, take}
use Rattle.sw_see_draw.specs.Picture.{race_lanes, with_lanes}
use Rattle.sw_see_draw.proofs.lanes.lanes.Given as goal

abbrev pub invariant-loop-mark : goal.invariant-loop-mark
invariant-loop-mark l =
    (l.count ≡ fold with_lanes (race_lanes l.fn.race) (take l.mark-index l.marks))
    × (l.count ≤ 4294967296)
