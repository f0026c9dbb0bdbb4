-- The first arm of the case is among those that are left.
use Rattle.std.proofs.Common.{◌≡◌}
use Rattle.std.specs.Iterator.Adapters.{zip_first, zip_second}
use Rattle.std.specs.Slice.Iter.{iter_rest}
use Rattle.sw_lower_stmt.specs.Parts.{block_named}
use Rattle.sw_lower_stmt.proofs.cases.block_named.Given as goal

abbrev pub invariant-loop-arm : goal.invariant-loop-arm
invariant-loop-arm l =
    block_named (iter_rest (zip_first l.arm-iterator)) (iter_rest (zip_second l.arm-iterator))
    l.name ≡ block_named l.arms l.blocks l.name
