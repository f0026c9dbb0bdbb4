use Rattle.std.proofs.Common.{◌≡◌, length, take}
use Rattle.sw_types.specs.Parts.{shape_parts}
use Rattle.sw_types.proofs.Filling.{IsFilled}
use Rattle.sw_types.proofs.tables.parts_table.Given as goal

abbrev pub invariant-loop-number : goal.invariant-loop-number
invariant-loop-number l = (length l.table ≡ length l.shapes)
    × IsFilled 0 shape_parts l.shapes (take l.number-index l.order) l.table
