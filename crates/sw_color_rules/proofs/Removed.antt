-- With the colours removed.
use Rattle.std.proofs.Common.{◌≡◌, ℕ, List, [], ◌∷◌, refl, fold}
use Rattle.sw_graph.specs.declared.graph.Graph.{Graph}
use Rattle.sw_value.specs.Reach.{step_of, reach}
use Rattle.sw_color_rules.specs.declared.colored.Colored.{Colored}
use Rattle.sw_color_rules.specs.Machine.{colored_start, colored_step, colored_reach}

pub step_state : (graph : Graph) (colored : Colored) (item : ℕ)
    → (colored_step graph colored item).state ≡ step_of graph colored.state item
unfolding colored_step
step_state graph colored item = refl

states : (graph : Graph) (items : List ℕ) (colored : Colored)
    → (fold (colored_step graph) colored items).state ≡ fold (step_of graph) colored.state items
unfolding colored_step
states graph [] colored = refl
states graph (item ∷ items) colored = states graph items (colored_step graph colored item)

pub reach_state : (graph : Graph) (items : List ℕ)
    → (colored_reach graph items).state ≡ reach graph items
unfolding colored_reach reach
reach_state graph items = states graph items (colored_start graph)
