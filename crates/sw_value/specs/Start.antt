-- The state before any item.
use Rattle.std.specs.Prelude.{None, List, [], ◌∷◌, length, reverse, replicate}
use Rattle.std.specs.List.{filter_map}
use Rattle.sw_graph.specs.declared.graph.Graph.{Graph}
use Rattle.sw_value.specs.declared.frame.Frame.{Frame}
use Rattle.sw_value.specs.declared.state.State.{State}
use Rattle.sw_value.specs.Frame.{first_frame}
use Rattle.sw_value.specs.Job.{new_job}

-- the frames of the first job from the bottom: the entry, and then the functions of the globals'
-- first values, the first global's on top
unfoldable pub start_frames : Graph → List Frame
start_frames graph = filter_map (λ f. first_frame graph f []) (graph.entry ∷ reverse graph.starts)

-- no cells, globals without value, and one job that has not run yet
unfoldable pub start_of : Graph → State
start_of graph = record {
  cells = [];
  globals = replicate (length graph.globals) None;
  jobs = new_job (start_frames graph) ∷ [];
  halted = None;
}
