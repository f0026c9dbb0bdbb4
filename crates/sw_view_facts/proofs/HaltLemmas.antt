-- A trap changes nothing in a view.
use Rattle.std.proofs.Common.{◌≡◌, ℕ, Option, List, refl}
use Rattle.sw_graph.specs.declared.graph.Graph.{Graph}
use Rattle.sw_value.specs.declared.state.State.{State}
use Rattle.sw_value.specs.declared.state.TrapKind.{TrapKind}
use Rattle.sw_value.specs.State.{halt}
use Rattle.sw_partition.specs.Regions.{Regions}
use Rattle.sw_view_facts.specs.Views.{Colours, annotated, view_of}

pub halt_same : (graph : Graph) (states : ℕ → List (Option Regions)) (state : State)
    (kind : TrapKind) (at : ℕ) (colours : Colours)
    → view_of graph (annotated states (halt kind at state)) (halt kind at state) colours
    ≡ view_of graph (annotated states state) state colours
unfolding halt
halt_same graph states state kind at colours = refl
