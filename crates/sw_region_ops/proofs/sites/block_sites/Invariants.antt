use Rattle.std.proofs.Common.{◌≡◌, ◌++◌, drop}
use Rattle.std.specs.List.{flat_map}
use Rattle.sw_region_ops.specs.Sites.{sites_of}
use Rattle.sw_region_ops.specs.Table.{block_ops}
use Rattle.sw_region_ops.proofs.sites.block_sites.Given as goal

abbrev pub invariant-loop-block : goal.invariant-loop-block
invariant-loop-block l =
    l.sites ++ sites_of (flat_map (block_ops l.context) (drop l.block-index l.blocks))
    ≡ sites_of (flat_map (block_ops l.context) l.blocks)
