use Rattle.std.proofs.Common.{◌≡◌, length, take}
use Rattle.sw_types.proofs.acceptance.+same.Given as goal

abbrev pub invariant-are_same-loop-one : goal.invariant-are_same-loop-one
invariant-are_same-loop-one l = take (length l.yielded) l.left ≡ take (length l.yielded) l.right
