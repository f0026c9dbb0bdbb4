use Rattle.std.proofs.Common.{◌≡◌, ◌++◌, drop}
use Rattle.std.specs.List.{flat_map}
use Rattle.sw_isolation_rules.specs.Lists.{refusals_in}
use Rattle.sw_isolation_rules.specs.Programs.{global_refusals}
use Rattle.sw_typing_rules.specs.Worlds.{world_of}
use Rattle.sw_isolation.proofs.isolating.refusals.Given as goal

-- the breaches so far, and those of the global variables that are left
abbrev pub invariant-loop-global : goal.invariant-loop-global
invariant-loop-global l = l.found
    ++ flat_map (global_refusals (world_of l.world)) (drop l.global-index l.world.globals)
    ≡ refusals_in l.notes
    ++ flat_map (global_refusals (world_of l.world)) l.world.globals
