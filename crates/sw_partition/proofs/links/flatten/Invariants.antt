use Rattle.sw_partition.proofs.Linking.{IsFlattening}
use Rattle.sw_partition.proofs.links.flatten.Given as goal

abbrev pub invariant-loop-x : goal.invariant-loop-x
invariant-loop-x l = IsFlattening l.fn.links l.links l.x
