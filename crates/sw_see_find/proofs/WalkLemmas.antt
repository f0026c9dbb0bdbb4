-- The states of a walk are small.
use Rattle.std.proofs.Common.{◌≡◌, ℕ, ◌<◌, List, ◌∷◌, [], ◌++◌, length, ap, sym, subst, ◌∙◌, arith}
use Rattle.sw_graph.specs.declared.graph.Graph.{Graph}
use Rattle.sw_value.specs.declared.state.State.{State}
use Rattle.sw_value.specs.Reach.{reach, step_of}
use Rattle.sw_value.proofs.ReachLemmas.{reach_push}
use Rattle.sw_value.proofs.StaysInBounds as bounds
use Rattle.sw_see_find.specs.declared.walking.TheConstants.{MOST_ITEMS}

-- there is room for one more cell
pub few_cells : (graph : Graph) (state : State) (items : List ℕ) → state ≡ reach graph items
    → length items < MOST_ITEMS → length state.cells < 4294967295
few_cells graph state items reached few =
    subst (λ (s : State). length s.cells < 4294967295) (sym reached)
    (omega (arith, bounds.few_cells graph items, few))

-- the jobs have numbers of 32 bits
pub few_jobs : (graph : Graph) (state : State) (items : List ℕ) → state ≡ reach graph items
    → length state.jobs < 4294967296
few_jobs graph state items reached =
    let few = bounds.few_jobs graph items in
    subst (λ (s : State). length s.jobs < 4294967296) (sym reached) (omega (arith, few))

-- one item more
pub reached_push : (graph : Graph) (state after : State) (items : List ℕ) (item : ℕ)
    → state ≡ reach graph items → after ≡ step_of graph state item
    → after ≡ reach graph (items ++ item ∷ [])
reached_push graph state after items item reached steps =
    steps ∙ (ap (λ s. step_of graph s item) reached ∙ sym (reach_push graph items item))
