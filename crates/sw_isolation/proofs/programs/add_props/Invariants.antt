use Rattle.std.proofs.Common.{◌≡◌, ◌++◌, drop}
use Rattle.std.specs.List.{flat_map}
use Rattle.sw_typing_rules.specs.Worlds.{world_of}
use Rattle.sw_isolation_table.specs.Known.{answers_of}
use Rattle.sw_isolation_rules.specs.Programs.{prop_notes}
use Rattle.sw_isolation.proofs.programs.add_props.Given as goal

-- what is noted so far, and of the properties that are left
abbrev pub invariant-loop-prop : goal.invariant-loop-prop
invariant-loop-prop l = l.notes
    ++ flat_map (prop_notes (world_of l.world) (answers_of l.typed) l.number)
    (drop l.prop-index l.props)
    ≡ l.fn.notes ++ flat_map (prop_notes (world_of l.world) (answers_of l.typed) l.number) l.props
