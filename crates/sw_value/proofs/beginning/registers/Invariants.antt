use Rattle.std.proofs.Common.{◌≡◌, Some, map}
use Rattle.sw_value.proofs.beginning.registers.Given as goal

abbrev pub invariant-loop-value : goal.invariant-loop-value
invariant-loop-value l = l.regs ≡ map Some l.yielded
