use Rattle.std.proofs.Common.{◌≡◌, get_or, map, take}
use Rattle.sw_types.specs.Parts.{parts_together}
use Rattle.sw_types.specs.declared.shape.Part.{Part}
use Rattle.sw_types.proofs.tables.properties_parts.Given as goal

abbrev pub invariant-loop-part : goal.invariant-loop-part
invariant-loop-part l = l.total ≡ parts_together (λ k. get_or l.named k 0)
    (map (λ (part : Part). part.ty) (take l.part-index l.parts))
