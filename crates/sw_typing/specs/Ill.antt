-- The fault of a program with an ill node.
use Rattle.std.specs.Prelude.{List, Some}
use Rattle.sw_tree.specs.declared.decl.Decl.{Decl}
use Rattle.sw_typing_rules.specs.Programs.{IsFirstIll}
use Rattle.sw_typing_rules.specs.Worlds.{World}
use Rattle.sw_typing.specs.declared.typing.TypeFault.{TypeFault}
use Rattle.sw_typing.specs.declared.typing.TypeFault.TheVariants as fault

-- The fault is the first ill node of a program. Nothing is said of memory.
abbrev pub IsIllProgram : World → List Decl → TypeFault → Type 0
IsIllProgram world decls (fault.Breach code at) =
    IsFirstIll world decls (Some (record { at = at; code = code }))
IsIllProgram world decls fault.Memory = Unit {0}
