-- Lemmas on the states that items lead to.
use Rattle.std.proofs.Common.{Option, None, ◌≡◌, ℕ, ◌+◌, ◌≤◌, Some, List, [], ◌∷◌, ◌++◌, length}
use Rattle.std.proofs.Common.{refl, ap, ◌∙◌, arith}
use Rattle.std.specs.List.{fold}
use Rattle.std.proofs.lemmas.List.Sums.{fold-append}
use Rattle.sw_graph.specs.declared.graph.Graph.{Graph}
use Rattle.sw_value.specs.declared.state.State.{State}
use Rattle.sw_value.specs.Start.{start_of}
use Rattle.sw_value.specs.declared.effect.Act.{Act}
use Rattle.sw_value.specs.Act.{act_of}
use Rattle.sw_value.specs.Transition.{transition_by, transition_of}
use Rattle.std.specs.Option.{option_map}
use Rattle.sw_value.specs.Reach.{after, after_act, step_of, reach, Reached}

-- what an act of job j, or none, leads to
abbrev pub after_acts : ℕ → Option Act → State → State
after_acts j None state = state
after_acts j (Some act) state = after_act j act state

pub step_by_act : (graph : Graph) (state : State) (j : ℕ)
    → step_of graph state j ≡ after_acts j (act_of graph state j) state
unfolding step_of transition_of
step_by_act graph state j = by (act_of graph state j) where
  by : (o : Option Act) → after
      (option_map (transition_by graph state j) o) state ≡ after_acts j o state
  by None = refl
  by (Some act) = refl

pub reach_none : (graph : Graph) → reach graph [] ≡ start_of graph
unfolding reach
reach_none graph = refl

-- one more item
pub reach_push : (graph : Graph) (items : List ℕ) (item : ℕ)
    → reach graph (items ++ item ∷ []) ≡ step_of graph (reach graph items) item
unfolding reach
reach_push graph items item = fold-append (step_of graph) (start_of graph) items (item ∷ [])

pub start_reached : (graph : Graph) → Reached graph (start_of graph)
start_reached graph = record { items = []; gives = reach_none graph }

pub step_reached : (graph : Graph) (state : State) (item : ℕ) → Reached graph state
    → Reached graph (step_of graph state item)
step_reached graph state item r = record {
  items = r.items ++ item ∷ [];
  gives = reach_push graph r.items item ∙ ap (λ s. step_of graph s item) r.gives;
}

-- what holds at the start and is kept by each step holds of each state that items lead to
pub reach_keeps : (P : State → Type 0) (graph : Graph) → P (start_of graph)
    → ((state : State) (item : ℕ) → P state → P (step_of graph state item)) → (items : List ℕ)
    → P (reach graph items)
unfolding reach
reach_keeps P graph begins keeps items = on (start_of graph) items begins where
  on : (state : State) (is : List ℕ) → P state → P (fold (step_of graph) state is)
  on state [] p = p
  on state (i ∷ is) p = on (step_of graph state i) is (keeps state i p)

-- what each step makes greater by one at most is no greater than the number of items, where it is 0
-- at the start
pub reach_counts : (count : State → ℕ) (graph : Graph) → count (start_of graph) ≡ 0
    → ((state : State) (item : ℕ) → count (step_of graph state item) ≤ count state + 1)
    → (items : List ℕ) → count (reach graph items) ≤ length items
unfolding reach
reach_counts count graph begins grows items = let on = from (start_of graph) items in
    omega (arith, on, begins) where
      from : (state : State) (is : List ℕ)
          → count (fold (step_of graph) state is) ≤ count state + length is
      from state [] = omega arith
      from state (i ∷ is) =
          let rest = from (step_of graph state i) is in
          let one = grows state i in omega (arith, rest, one)
