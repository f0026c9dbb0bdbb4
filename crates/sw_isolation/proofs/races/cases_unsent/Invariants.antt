use Rattle.std.proofs.Common.{◌≡◌, ◌||◌, drop, map}
use Rattle.sw_typing_rules.specs.Worlds.{world_of}
use Rattle.sw_isolation.specs.Unsent.{any_unsent}
use Rattle.std.specs.List.{flat_map}
use Rattle.sw_types.specs.declared.shape.CaseShape.{CaseShape}
use Rattle.sw_isolation.proofs.races.cases_unsent.Given as goal

-- whether one was, or one of those that are left is
abbrev pub invariant-loop-case : goal.invariant-loop-case
invariant-loop-case l = (l.any || any_unsent (world_of l.world).shapes
    (flat_map (λ (one : CaseShape). one.payload) (drop l.case-index l.cases)))
    ≡ any_unsent (world_of l.world).shapes
    (flat_map (λ (one : CaseShape). one.payload) l.cases)
