use Rattle.std.proofs.Common.{◌≡◌, ◌++◌, drop}
use Rattle.sw_region_ops.specs.Marks.{arguments_from}
use Rattle.sw_region_ops.proofs.marks.arguments_of.Given as goal

abbrev pub invariant-loop-index : goal.invariant-loop-index
invariant-loop-index l =
    l.marks ++ arguments_from l.elements l.sending l.wanted l.index (drop l.index l.operands)
    ≡ arguments_from l.elements l.sending l.wanted 0 l.operands
