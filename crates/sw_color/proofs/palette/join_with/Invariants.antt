use Rattle.std.proofs.Common.{◌≡◌, take}
use Rattle.sw_color.specs.Making.{joined_with}
use Rattle.sw_color.proofs.palette.join_with.Given as goal

abbrev pub invariant-loop-number : goal.invariant-loop-number
invariant-loop-number l =
    l.palette ≡ joined_with l.first (take l.number-index l.others) l.fn.palette
