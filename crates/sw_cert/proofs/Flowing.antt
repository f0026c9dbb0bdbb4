-- The flows of a graph's functions, one after the other.
use Rattle.std.proofs.Common.{◌≡◌, ℕ, ◌+◌, ◌<◌, ◌≤◌, inl, inr, Some, List, [], ◌∷◌}
use Rattle.std.proofs.Common.{◌++◌, length, refl, sym, subst, ap, ◌∙◌, arith}
use Rattle.std.specs.List.{slice_get}
use Rattle.sw_graph.specs.declared.function.Function.{Function}
use Rattle.sw_graph.specs.declared.graph.Graph.{Graph}
use Rattle.sw_list.proofs.ListLemmas.{some_injective}
use Rattle.std.proofs.lemmas.Bool.{cases_lt}
use Rattle.sw_cert.proofs.Growing.{pushed}
use Rattle.sw_cert.specs.Flows.{IsSized, IsFlowOf, AreFirstFlows, AreSized, IsMostOf}
use Rattle.sw_cert.specs.declared.flows.FunctionFlow.{FunctionFlow}
use Rattle.sw_cert.specs.declared.line.Extent.{Extent}

pub flows_more : (graph : Graph) (count : ℕ) (flows new : List FunctionFlow) (flow : FunctionFlow)
    → AreFirstFlows graph count flows
    → ((body : Function) → slice_get graph.functions count ≡ Some body → IsFlowOf graph body flow)
    → new ≡ flows ++ flow ∷ [] → AreFirstFlows graph (count + 1) new
flows_more graph count flows new flow first is_flow e =
    subst (AreFirstFlows graph (count + 1)) (sym e) (record {
      count_is = length_push flows flow ∙ ap (λ n. n + 1) first.count_is;
      each = λ n body other is_body is_other. elim (pushed flows flow other n is_other) [
        | inl before ↦ first.each n body other is_body before
        | inr last ↦ subst (IsFlowOf graph body) last.1 (is_flow body
            (ap (slice_get graph.functions) (sym first.count_is ∙ sym last.0) ∙ is_body))
      ];
    })
  where
    length_push : (xs : List FunctionFlow) (x : FunctionFlow) → length (xs ++ x ∷ []) ≡ length xs + 1
    length_push [] x = refl
    length_push (y ∷ xs) x = omega (arith, length_push xs x)

pub sized_more : (flows new : List FunctionFlow) (flow : FunctionFlow) → AreSized flows → IsSized flow
    → new ≡ flows ++ flow ∷ [] → AreSized new
sized_more flows new flow sized is_sized e = λ n other is_other.
    elim (pushed flows flow other n (ap (λ fs. slice_get fs n) (sym e) ∙ is_other)) [
      | inl before ↦ sized n other before
      | inr last ↦ subst IsSized last.1 is_sized
    ]

-- a number past all that a line of one of the first functions may name, and of the next one
pub most_more : (extents : List Extent) (count most new : ℕ) (extent : Extent)
    → IsMostOf extents count most → slice_get extents count ≡ Some extent → most ≤ new
    → extent.blocks ≤ new → extent.elements < new → IsMostOf extents (count + 1) new
most_more extents count most new extent first is rises blocks elements = record {
  functions = omega (arith, first.functions, rises);
  each = λ n other within is_other. elim (cases_lt n count) [
    | inl before ↦ (
        let h = first.each n other before is_other in
        (omega (arith, h.0, rises), omega (arith, h.1, rises))
        )
    | inr past ↦ (
        let same : n ≡ count = omega (arith, within, past) in
        let e : extent ≡ other = some_injective (sym is ∙ ap (slice_get extents) (sym same)
        ∙ is_other) in
        subst (λ x. (x.blocks ≤ new) × (x.elements < new)) e (blocks, elements)
        )
  ];
}
