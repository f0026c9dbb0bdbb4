use Rattle.sw_partition.proofs.Linking.{IsSinking}
use Rattle.sw_partition.proofs.links.sink.Given as goal

abbrev pub invariant-loop-x : goal.invariant-loop-x
invariant-loop-x l = IsSinking l.fn.labels l.labels l.x
