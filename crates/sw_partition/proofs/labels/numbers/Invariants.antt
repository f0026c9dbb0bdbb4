use Rattle.sw_partition.specs.Tables.{AreNumbers}
use Rattle.sw_partition.proofs.labels.numbers.Given as goal

abbrev pub invariant-loop-x : goal.invariant-loop-x
invariant-loop-x l = AreNumbers l.x l.labels.items
