use Rattle.std.proofs.Common.{take}
use Rattle.sw_step.proofs.LineLemmas.{LineSoFar}
use Rattle.sw_step.proofs.operands.printed_line.Given as goal

abbrev pub invariant-loop-index : goal.invariant-loop-index
invariant-loop-index l = LineSoFar l.frame.regs (take l.index l.operand-items) l.line.items
