use Rattle.std.proofs.Common.{◌≡◌, false, length, take}
use Rattle.sw_types.specs.Sendable.{shape_sends}
use Rattle.sw_types.proofs.Filling.{IsFilled}
use Rattle.sw_types.proofs.tables.sends_table.Given as goal

abbrev pub invariant-loop-number : goal.invariant-loop-number
invariant-loop-number l = (length l.table ≡ length l.shapes)
    × IsFilled false shape_sends l.shapes (take l.number-index l.order) l.table
