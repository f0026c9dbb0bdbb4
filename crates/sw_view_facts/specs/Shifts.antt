-- A step that changes the frame p and the one above it: a call, or a return.
use Rattle.std.specs.Prelude.{◌≡◌, ◌≢◌, Option, Some, None}
use Rattle.sw_graph.specs.declared.graph.Graph.{Graph}
use Rattle.sw_value.specs.declared.frame.Frame.{Frame}
use Rattle.sw_value.specs.declared.state.State.{State}
use Rattle.sw_partition.specs.Regions.{Regions}
use Rattle.sw_owner_facts.specs.View.{above, IsFrame, Frame as Spot}
use Rattle.sw_view_facts.specs.Views.{Colours, frame_at, here_at, view_of}
use Rattle.sw_view_facts.specs.Changes.{KeepsReach, KeepsShape}
use Rattle.sw_view_facts.specs.Steps.{SameCall}

pub record Shifts (graph : Graph) (regions later : Spot → Option Regions) (state next : State)
    (colours after : Colours) (p : Spot) (f g : Frame) : Type 0 where
  pub was : frame_at state p ≡ Some f
  pub now : frame_at next p ≡ Some g
  pub none : frame_at state (above (above p)) ≡ None
  pub others : (s : Spot) → s ≢ p → s ≢ above p → frame_at next s ≡ frame_at state s
  pub back : (s : Spot) → s ≢ above p → IsFrame (view_of graph later next after) s
      → IsFrame (view_of graph regions state colours) s
  pub call : SameCall f g
  pub shape : KeepsShape graph f g
  pub heres : (s : Spot) → s ≢ above p → here_at after s ≡ here_at colours s
  pub regions_stay : (s : Spot) → s ≢ p → s ≢ above p → later s ≡ regions s
  pub reached : KeepsReach state next colours after
