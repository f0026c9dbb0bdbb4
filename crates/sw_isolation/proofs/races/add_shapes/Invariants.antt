use Rattle.std.proofs.Common.{◌≡◌, ◌++◌, drop}
use Rattle.std.specs.List.{flat_map}
use Rattle.sw_isolation_rules.specs.Races.{shape_races}
use Rattle.sw_typing_rules.specs.Worlds.{world_of}
use Rattle.sw_isolation.proofs.races.add_shapes.Given as goal

-- the breaches so far, and those of the types that are left
abbrev pub invariant-loop-shape : goal.invariant-loop-shape
invariant-loop-shape l = l.found
    ++ flat_map (shape_races (world_of l.world)) (drop l.shape-index l.world.shapes)
    ≡ l.fn.found ++ flat_map (shape_races (world_of l.world)) l.world.shapes
