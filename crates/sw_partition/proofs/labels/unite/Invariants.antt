use Rattle.sw_partition.proofs.Linking.{IsUniting}
use Rattle.sw_partition.proofs.labels.unite.Given as goal

abbrev pub invariant-loop-x : goal.invariant-loop-x
invariant-loop-x l = IsUniting l.fn.labels l.other l.labels l.x
