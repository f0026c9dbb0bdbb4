use Rattle.std.proofs.Common.{◌≡◌, ◌++◌}
use Rattle.sw_see_draw.specs.Picture.{lanes_drawn}
use Rattle.sw_see_draw.proofs.lanes.add_lanes.Given as goal

abbrev pub invariant-loop-job : goal.invariant-loop-job
invariant-loop-job l = l.made.items ≡ l.fn.made.items ++ lanes_drawn l.width l.job
