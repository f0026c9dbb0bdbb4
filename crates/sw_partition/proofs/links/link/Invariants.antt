use Rattle.std.proofs.Common.{◌+◌, slice_index}
use Rattle.sw_partition.proofs.Linking.{IsLinking}
use Rattle.sw_partition.proofs.links.link.Given as goal

abbrev pub invariant-loop-links : goal.invariant-loop-links
invariant-loop-links l = IsLinking l.x l.y l.fn.links l.links l.u l.v

abbrev pub decreases-loop-links : goal.decreases-loop-links
decreases-loop-links l = l.u + l.v + slice_index l.links l.u + slice_index l.links l.v
