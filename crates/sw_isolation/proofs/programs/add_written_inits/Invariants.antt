use Rattle.std.proofs.Common.{◌≡◌, ◌++◌, drop}
use Rattle.std.specs.List.{flat_map}
use Rattle.sw_typing_rules.specs.Worlds.{world_of}
use Rattle.sw_isolation_table.specs.Known.{answers_of}
use Rattle.sw_isolation_rules.specs.Programs.{init_notes}
use Rattle.sw_isolation.proofs.programs.add_written_inits.Given as goal

-- what is noted so far, and of the initialisers that are left
abbrev pub invariant-loop-init : goal.invariant-loop-init
invariant-loop-init l = l.notes
    ++ flat_map (init_notes (world_of l.world) (answers_of l.typed)) (drop l.init-index l.inits)
    ≡ l.fn.notes ++ flat_map (init_notes (world_of l.world) (answers_of l.typed)) l.inits
