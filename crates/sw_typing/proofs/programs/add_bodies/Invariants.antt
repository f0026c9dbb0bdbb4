use Rattle.std.proofs.Common.{◌≡◌, ◌++◌, ◌≤◌, drop}
use Rattle.std.specs.List.{flat_map}
use Rattle.sw_typing_rules.specs.Programs.{bodies_from, said_of_body}
use Rattle.sw_typing_rules.specs.Worlds.{world_of}
use Rattle.sw_typing.proofs.programs.add_bodies.Given as goal

-- what is noted so far, and of the declarations that are left
abbrev pub invariant-loop-decl : goal.invariant-loop-decl
invariant-loop-decl l = (l.shape ≤ l.decl-index)
    × (l.more ++ flat_map (said_of_body (world_of l.world))
    (bodies_from (world_of l.world) l.shape (drop l.decl-index l.decls))
    ≡ l.fn.rows ++ flat_map (said_of_body (world_of l.world))
    (bodies_from (world_of l.world) 0 l.decls))
