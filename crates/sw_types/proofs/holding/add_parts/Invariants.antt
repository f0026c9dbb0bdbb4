use Rattle.std.proofs.Common.{◌≡◌, ◌++◌, map, take}
use Rattle.std.specs.List.{flat_map}
use Rattle.sw_types.specs.Held.{named_by}
use Rattle.sw_types.specs.declared.shape.Part.{Part}
use Rattle.sw_types.proofs.holding.add_parts.Given as goal

abbrev pub invariant-loop-part : goal.invariant-loop-part
invariant-loop-part l =
    l.held ≡ l.fn.held
    ++ flat_map named_by (map (λ (part : Part). part.ty) (take l.part-index l.parts))
