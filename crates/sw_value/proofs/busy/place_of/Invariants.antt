use Rattle.std.proofs.Common.{◌≡◌, take}
use Rattle.sw_value.specs.Busy.{times}
use Rattle.sw_value.proofs.busy.place_of.Given as goal

abbrev pub invariant-loop-index : goal.invariant-loop-index
invariant-loop-index l = times l.executor (take l.index l.other-items) ≡ 0
