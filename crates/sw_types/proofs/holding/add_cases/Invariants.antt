use Rattle.std.proofs.Common.{◌≡◌, ◌++◌, take}
use Rattle.std.specs.List.{flat_map}
use Rattle.sw_types.specs.Held.{named_by}
use Rattle.sw_types.specs.declared.shape.CaseShape.{CaseShape}
use Rattle.sw_types.proofs.holding.add_cases.Given as goal

abbrev pub invariant-loop-case : goal.invariant-loop-case
invariant-loop-case l = l.held ≡ l.fn.held
    ++ flat_map named_by (flat_map (λ (one : CaseShape). one.payload) (take l.case-index l.cases))
