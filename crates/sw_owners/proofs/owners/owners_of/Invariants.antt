use Rattle.std.proofs.Common.{◌≡◌}
use Rattle.std.specs.List.{filter_map, range_with_len}
use Rattle.sw_owners.specs.Owners.{owner_at}
use Rattle.sw_owners.proofs.owners.owners_of.Given as goal

abbrev pub invariant-loop-cell : goal.invariant-loop-cell
invariant-loop-cell l = l.owners ≡ filter_map (owner_at l.colored) (range_with_len 0 l.cell)
