use Rattle.std.proofs.Common.{◌≡◌, ◌++◌, ◌≤◌, drop}
use Rattle.sw_typing_rules.specs.Worlds.{world_of}
use Rattle.sw_isolation_table.specs.Known.{answers_of}
use Rattle.sw_isolation_rules.specs.Programs.{noted, notes_from}
use Rattle.sw_isolation.proofs.programs.noted.Given as goal

-- what is noted so far, and of the declarations that are left
abbrev pub invariant-loop-decl : goal.invariant-loop-decl
invariant-loop-decl l = (l.number ≤ l.decl-index)
    × (l.notes ++ notes_from (world_of l.world) (answers_of l.typed) l.number
    (drop l.decl-index l.decls) ≡ noted (world_of l.world) (answers_of l.typed) l.decls)
