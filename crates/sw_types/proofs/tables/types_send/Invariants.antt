use Rattle.std.proofs.Common.{◌≡◌, false, get_or, take}
use Rattle.std.specs.List.{list_all}
use Rattle.sw_types.specs.Sendable.{type_sends}
use Rattle.sw_types.proofs.tables.types_send.Given as goal

abbrev pub invariant-loop-ty : goal.invariant-loop-ty
invariant-loop-ty l = l.all
    ≡ list_all (type_sends (λ k. get_or l.named k false)) (take l.ty-index l.types)
