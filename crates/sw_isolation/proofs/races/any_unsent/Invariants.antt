use Rattle.std.proofs.Common.{◌≡◌, ◌||◌, drop, map}
use Rattle.sw_typing_rules.specs.Worlds.{world_of}
use Rattle.sw_isolation.specs.Unsent.{any_unsent}
use Rattle.sw_isolation.proofs.races.any_unsent.Given as goal

-- whether one was, or one of those that are left is
abbrev pub invariant-loop-ty : goal.invariant-loop-ty
invariant-loop-ty l = (l.any || any_unsent (world_of l.world).shapes (drop l.ty-index l.types))
    ≡ any_unsent (world_of l.world).shapes l.types
