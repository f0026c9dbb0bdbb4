use Rattle.std.proofs.Common.{◌≡◌, map, take}
use Rattle.sw_types.specs.Held.{held_by}
use Rattle.sw_types.proofs.holding.edges_of.Given as goal

abbrev pub invariant-loop-shape : goal.invariant-loop-shape
invariant-loop-shape l = l.edges ≡ map held_by (take l.shape-index l.shapes)
