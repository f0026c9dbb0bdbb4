use Rattle.std.proofs.Common.{◌≡◌, ◌++◌, drop}
use Rattle.std.specs.List.{flat_map}
use Rattle.sw_typing_rules.specs.Programs.{prop_value, said_of_value}
use Rattle.sw_typing_rules.specs.Worlds.{world_of}
use Rattle.sw_typing.proofs.programs.add_props.Given as goal

-- what is noted so far, and of the properties that are left
abbrev pub invariant-loop-prop : goal.invariant-loop-prop
invariant-loop-prop l = l.more ++ flat_map (said_of_value (world_of l.world))
    (flat_map (prop_value (world_of l.world) l.owner) (drop l.prop-index l.props))
    ≡ l.fn.rows ++ flat_map (said_of_value (world_of l.world))
    (flat_map (prop_value (world_of l.world) l.owner) l.props)
