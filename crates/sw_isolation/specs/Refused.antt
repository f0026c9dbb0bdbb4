-- The fault of a program with a breach of isolation.
use Rattle.std.specs.Prelude.{List, Some}
use Rattle.sw_tree.specs.declared.decl.Decl.{Decl}
use Rattle.sw_typing_rules.specs.Worlds.{World}
use Rattle.sw_isolation_rules.specs.Answers.{Answers}
use Rattle.sw_isolation_rules.specs.Programs.{IsFirstRefusal}
use Rattle.sw_isolation.specs.declared.isolating.IsoFault.{IsoFault}
use Rattle.sw_isolation.specs.declared.isolating.IsoFault.TheVariants as fault

-- The fault is the first breach of isolation of a program. Nothing is said of memory.
abbrev pub IsIsolationFault : World → Answers → List Decl → IsoFault → Type 0
IsIsolationFault world answers decls (fault.Breach code at) =
    IsFirstRefusal world answers decls (Some (record { at = at; code = code }))
IsIsolationFault world answers decls fault.Memory = Unit {0}
