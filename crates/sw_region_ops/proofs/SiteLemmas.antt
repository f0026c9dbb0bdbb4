-- The sites of operations.
use Rattle.std.proofs.Common.{◌≡◌, List, ◌++◌}
use Rattle.std.proofs.lemmas.List.Concat.{flat_map-append}
use Rattle.sw_region_ops.specs.Sites.{site_of, sites_of}
use Rattle.sw_region_ops.specs.declared.op.Op.{Op}

pub sites_append : (a b : List Op) → sites_of (a ++ b) ≡ sites_of a ++ sites_of b
sites_append a b = flat_map-append site_of a b
