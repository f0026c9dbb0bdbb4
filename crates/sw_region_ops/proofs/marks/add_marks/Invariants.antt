use Rattle.std.proofs.Common.{◌≡◌, ◌++◌, drop}
use Rattle.sw_region_ops.specs.Marks.{marks_of}
use Rattle.sw_region_ops.proofs.marks.add_marks.Given as goal

abbrev pub invariant-loop-operand : goal.invariant-loop-operand
invariant-loop-operand l =
    l.marks ++ marks_of l.elements (drop l.operand-index l.operands)
    ≡ l.fn.marks ++ marks_of l.elements l.operands
