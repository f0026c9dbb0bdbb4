use Rattle.std.proofs.Common.{◌≡◌, ◌++◌, drop}
use Rattle.std.specs.List.{flat_map}
use Rattle.sw_region_ops.specs.Table.{instr_ops}
use Rattle.sw_region_ops.proofs.table.instrs_ops.Given as goal

abbrev pub invariant-loop-instr : goal.invariant-loop-instr
invariant-loop-instr l =
    l.ops ++ flat_map (instr_ops l.context) (drop l.instr-index l.instrs)
    ≡ l.fn.ops ++ flat_map (instr_ops l.context) l.instrs
