use Rattle.std.proofs.Common.{◌≡◌, Some, take}
use Rattle.sw_value.specs.Lists.{each_of}
use Rattle.sw_value.specs.Value.{operand_value}
use Rattle.sw_step.proofs.operands.values_at.Given as goal

abbrev pub invariant-loop-operand : goal.invariant-loop-operand
invariant-loop-operand l =
    each_of (operand_value l.frame.regs) (take l.operand-index l.operand-items) ≡ Some l.values
