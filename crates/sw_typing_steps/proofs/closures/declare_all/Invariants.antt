use Rattle.std.proofs.Common.{◌≡◌, ◌++◌}
use Rattle.sw_typing_steps.proofs.closures.declare_all.Given as goal

abbrev pub invariant-loop-var : goal.invariant-loop-var
invariant-loop-var l = l.scope ≡ l.fn.scope ++ l.yielded
