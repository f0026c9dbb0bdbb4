use Rattle.std.proofs.Common.{◌≡◌, ◌++◌}
use Rattle.sw_step.proofs.calling.joined.Given as goal

abbrev pub invariant-loop-value : goal.invariant-loop-value
invariant-loop-value l = l.all ≡ l.fn.captures ++ l.yielded
