-- The events of a run: the transitions of its items, in order. An item that does nothing is none.
use Rattle.std.specs.Prelude.{ℕ, List, [], ◌∷◌, ◌++◌, option_to_list}
use Rattle.sw_graph.specs.declared.graph.Graph.{Graph}
use Rattle.sw_value.specs.declared.state.State.{State}
use Rattle.sw_value.specs.Reach.{step_of}
use Rattle.sw_value.specs.Start.{start_of}
use Rattle.sw_value.specs.Transition.{Transition, transition_of}

abbrev pub events_from : Graph → State → List ℕ → List Transition
events_from graph state [] = []
events_from graph state (item ∷ items) =
    option_to_list (transition_of graph state item)
    ++ events_from graph (step_of graph state item) items

-- the events of a list of items, from the start
unfoldable pub events_of : Graph → List ℕ → List Transition
events_of graph items = events_from graph (start_of graph) items
