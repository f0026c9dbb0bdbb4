use Rattle.std.proofs.Common.{◌≡◌, take}
use Rattle.sw_partition.specs.Regions.{size_of}
use Rattle.sw_region_flow.proofs.Visiting.{IsWalked}
use Rattle.sw_region_flow.proofs.walking.walk.Given as goal

abbrev pub invariant-loop-op : goal.invariant-loop-op
invariant-loop-op l = record {
  sized : size_of l.state ≡ size_of l.fn.state;
  walked : IsWalked (take l.op-index l.ops) l.fn.state l.state l.fn.found l.found;
}
