-- Each function of a graph without region breaches has an annotation that passes: one is chosen.
use Rattle.std.proofs.Common.{◌≡◌, ℕ, Option, Some, None, List, [], refl, subst}
use Rattle.std.specs.List.{slice_get}
use Rattle.sw_list.proofs.ListLemmas.{some_injective}
use Rattle.sw_graph.specs.declared.function.Function.{Function}
use Rattle.sw_graph.specs.declared.graph.Graph.{Graph}
use Rattle.sw_partition.specs.Regions.{Regions}
use Rattle.sw_region_flow.specs.Passing.{IsPassed}
use Rattle.sw_region_facts.specs.Annotated.{Annotates}
use Rattle.sw_region_facts.proofs.Annotated.{annotated}

module _ (graph : Graph) (passed : IsPassed graph) where
  chosen : (n : ℕ) (o : Option Function) → slice_get graph.functions n ≡ o
      → List (Option Regions)
  chosen n None is = []
  chosen n (Some body) is = (annotated graph passed n body is).0

  chosen_annotates : (n : ℕ) (o : Option Function) (is : slice_get graph.functions n ≡ o)
      (body : Function) → o ≡ Some body → Annotates graph body (chosen n o is)
  unfolding chosen
  chosen_annotates n None is body same = absurd (let clash : ⊥ = cc in clash)
  chosen_annotates n (Some found) is body same =
      subst (λ (b : Function). Annotates graph b (chosen n (Some found) is)) (some_injective same)
      (annotated graph passed n found is).1

  pub states_of : ℕ → List (Option Regions)
  states_of n = chosen n (slice_get graph.functions n) refl

  pub each_annotated : (n : ℕ) (body : Function) → slice_get graph.functions n ≡ Some body
      → Annotates graph body (states_of n)
  unfolding states_of chosen
  each_annotated n body is = chosen_annotates n (slice_get graph.functions n) refl body is
