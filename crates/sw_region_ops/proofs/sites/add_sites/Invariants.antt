use Rattle.std.proofs.Common.{◌≡◌, ◌++◌, drop}
use Rattle.sw_region_ops.specs.Sites.{sites_of}
use Rattle.sw_region_ops.proofs.sites.add_sites.Given as goal

abbrev pub invariant-loop-op : goal.invariant-loop-op
invariant-loop-op l =
    l.sites ++ sites_of (drop l.op-index l.ops) ≡ l.fn.sites ++ sites_of l.ops
