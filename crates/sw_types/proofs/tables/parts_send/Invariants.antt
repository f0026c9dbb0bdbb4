use Rattle.std.proofs.Common.{◌≡◌, false, get_or, map, take}
use Rattle.std.specs.List.{list_all}
use Rattle.sw_types.specs.Sendable.{type_sends}
use Rattle.sw_types.specs.declared.shape.Part.{Part}
use Rattle.sw_types.proofs.tables.parts_send.Given as goal

abbrev pub invariant-loop-part : goal.invariant-loop-part
invariant-loop-part l = l.all ≡ list_all (type_sends (λ k. get_or l.named k false))
    (map (λ (part : Part). part.ty) (take l.part-index l.parts))
