use Rattle.std.proofs.Common.{◌≡◌, ◌||◌, drop, map}
use Rattle.sw_typing_rules.specs.Worlds.{world_of}
use Rattle.sw_isolation.specs.Unsent.{any_unsent}
use Rattle.sw_types.specs.declared.shape.Part.{Part}
use Rattle.sw_isolation.proofs.races.parts_unsent.Given as goal

-- whether one was, or one of those that are left is
abbrev pub invariant-loop-part : goal.invariant-loop-part
invariant-loop-part l = (l.any || any_unsent (world_of l.world).shapes
    (map (λ (part : Part). part.ty) (drop l.part-index l.parts)))
    ≡ any_unsent (world_of l.world).shapes (map (λ (part : Part). part.ty) l.parts)
