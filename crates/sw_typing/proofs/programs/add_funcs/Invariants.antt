use Rattle.std.proofs.Common.{◌≡◌, ◌++◌, drop, map}
use Rattle.std.specs.List.{flat_map}
use Rattle.sw_typing_rules.specs.Programs.{func_body, said_of_body}
use Rattle.sw_typing_rules.specs.Worlds.{world_of}
use Rattle.sw_typing.proofs.programs.add_funcs.Given as goal

-- what is noted so far, and of the methods that are left
abbrev pub invariant-loop-func : goal.invariant-loop-func
invariant-loop-func l = l.more ++ flat_map (said_of_body (world_of l.world))
    (map (func_body (world_of l.world) l.owner) (drop l.func-index l.funcs))
    ≡ l.fn.rows ++ flat_map (said_of_body (world_of l.world))
    (map (func_body (world_of l.world) l.owner) l.funcs)
