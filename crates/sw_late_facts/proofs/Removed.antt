-- With the colours removed.
use Rattle.std.proofs.Common.{◌≡◌, ℕ, List, [], ◌∷◌, refl, fold}
use Rattle.sw_graph.specs.declared.graph.Graph.{Graph}
use Rattle.sw_value.specs.Reach.{step_of, reach}
use Rattle.sw_late_facts.specs.Late.{Late, late_start, late_step, late_reach}

pub step_state : (graph : Graph) (late : Late) (item : ℕ)
    → (late_step graph late item).state ≡ step_of graph late.state item
unfolding late_step
step_state graph late item = refl

states : (graph : Graph) (items : List ℕ) (late : Late)
    → (fold (late_step graph) late items).state ≡ fold (step_of graph) late.state items
unfolding late_step
states graph [] late = refl
states graph (item ∷ items) late = states graph items (late_step graph late item)

pub reach_state : (graph : Graph) (items : List ℕ)
    → (late_reach graph items).state ≡ reach graph items
unfolding late_reach reach
reach_state graph items = states graph items (late_start graph)
