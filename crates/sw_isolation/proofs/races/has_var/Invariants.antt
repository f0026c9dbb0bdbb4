use Rattle.std.proofs.Common.{◌≡◌, ◌||◌, drop}
use Rattle.std.specs.List.{list_any}
use Rattle.sw_types.specs.declared.shape.Part.{Part}
use Rattle.sw_isolation.proofs.races.has_var.Given as goal

-- whether one was, or one of those that are left is
abbrev pub invariant-loop-part : goal.invariant-loop-part
invariant-loop-part l =
    (l.any || list_any (λ (part : Part). part.mutable) (drop l.part-index l.shape.parts))
    ≡ list_any (λ (part : Part). part.mutable) l.shape.parts
