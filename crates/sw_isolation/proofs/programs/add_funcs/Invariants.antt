use Rattle.std.proofs.Common.{◌≡◌, ◌++◌, drop}
use Rattle.std.specs.List.{flat_map}
use Rattle.sw_typing_rules.specs.Worlds.{world_of}
use Rattle.sw_isolation_table.specs.Known.{answers_of}
use Rattle.sw_isolation_rules.specs.Programs.{func_notes}
use Rattle.sw_isolation.proofs.programs.add_funcs.Given as goal

-- what is noted so far, and of the functions that are left
abbrev pub invariant-loop-func : goal.invariant-loop-func
invariant-loop-func l = l.notes
    ++ flat_map (func_notes (world_of l.world) (answers_of l.typed)) (drop l.func-index l.funcs)
    ≡ l.fn.notes ++ flat_map (func_notes (world_of l.world) (answers_of l.typed)) l.funcs
