use Rattle.std.proofs.Common.{◌≡◌, false, get_or, take}
use Rattle.std.specs.List.{list_all, flat_map}
use Rattle.sw_types.specs.Sendable.{type_sends}
use Rattle.sw_types.specs.declared.shape.CaseShape.{CaseShape}
use Rattle.sw_types.proofs.tables.cases_send.Given as goal

abbrev pub invariant-loop-case : goal.invariant-loop-case
invariant-loop-case l = l.all ≡ list_all (type_sends (λ k. get_or l.named k false))
    (flat_map (λ (one : CaseShape). one.payload) (take l.case-index l.cases))
