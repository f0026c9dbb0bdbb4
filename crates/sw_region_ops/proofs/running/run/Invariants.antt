use Rattle.std.proofs.Common.{◌≡◌, drop}
use Rattle.sw_partition.specs.Regions.{Regions, size_of}
use Rattle.sw_region_ops.specs.Runs.{Runs}
use Rattle.sw_region_ops.proofs.running.run.Given as goal

abbrev pub invariant-loop-op : goal.invariant-loop-op
invariant-loop-op l = record {
  sized : size_of l.state ≡ size_of l.fn.state;
  ran : (b : Regions) → Runs (drop l.op-index l.ops) l.state b → Runs l.ops l.fn.state b;
}
