use Rattle.std.proofs.Common.{◌≡◌, ◌++◌, drop, map}
use Rattle.std.specs.List.{flat_map}
use Rattle.sw_typing_rules.specs.Programs.{init_body, said_of_body}
use Rattle.sw_typing_rules.specs.Worlds.{world_of}
use Rattle.sw_typing.proofs.programs.add_inits.Given as goal

-- what is noted so far, and of the initialisers that are left
abbrev pub invariant-loop-init : goal.invariant-loop-init
invariant-loop-init l = l.more ++ flat_map (said_of_body (world_of l.world))
    (map (init_body l.shape) (drop l.init-index l.inits))
    ≡ l.fn.rows ++ flat_map (said_of_body (world_of l.world)) (map (init_body l.shape) l.inits)
