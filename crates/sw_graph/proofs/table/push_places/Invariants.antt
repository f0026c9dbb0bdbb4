use Rattle.std.proofs.Common.{◌≡◌, ◌++◌}
use Rattle.sw_graph.specs.Table.{places_in}
use Rattle.sw_graph.proofs.table.push_places.Given as goal

abbrev pub invariant-loop-index : goal.invariant-loop-index
invariant-loop-index l = l.places ≡ l.fn.places ++ places_in l.block l.index
