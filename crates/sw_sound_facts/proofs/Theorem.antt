-- The machine of a graph that is clean, supplied and without region breaches never races.
use Rattle.std.proofs.Common.{ℕ, Option, List, [], ◌∷◌, map, sym, ap, ◌∙◌}
use Rattle.std.specs.Option.{option_map}
use Rattle.std.proofs.lemmas.List.{length-map}
use Rattle.std.proofs.lemmas.Option.{slice_get-map}
use Rattle.sw_list.proofs.ListLemmas.{some_injective}
use Rattle.sw_graph.specs.declared.graph.Graph.{Graph}
use Rattle.sw_graph.specs.Clean.{IsClean}
use Rattle.sw_graph.specs.Supplied.{IsSupplied}
use Rattle.sw_value.specs.declared.frame.Frame.{Frame}
use Rattle.sw_value.specs.declared.state.State.{State}
use Rattle.sw_value.specs.Racing.{Racing}
use Rattle.sw_value.specs.Reach.{reach, step_of}
use Rattle.sw_value.specs.Start.{start_frames, start_of}
use Rattle.sw_value.proofs.ReachLemmas.{reach_keeps}
use Rattle.sw_partition.specs.Regions.{Regions}
use Rattle.sw_region_flow.specs.Passing.{IsPassed}
use Rattle.sw_owner_facts.specs.Colours.{Colour}
use Rattle.sw_secure_facts.specs.Painting.{actor_on, begun_here}
use Rattle.sw_secure_value_facts.proofs.Whole as values
use Rattle.sw_secure_cell_facts.proofs.Stays as cells
use Rattle.sw_secure_call_facts.proofs.Whole.{calls_join, calls_stay}
use Rattle.sw_secure_job_facts.specs.Begins.{HeresBegin}
use Rattle.sw_secure_job_facts.proofs.Endings.{returns_stay}
use Rattle.sw_secure_job_facts.proofs.Jobs.{dispatches_stay, wakes_stay}
use Rattle.sw_secure_job_facts.proofs.Starts.{starts_secure}
use Rattle.sw_secure_job_facts.proofs.Tasks.{tasks_paint, tasks_stay}
use Rattle.sw_secure_job_facts.proofs.Traps.{traps_stay}
use Rattle.sw_secure_race_facts.proofs.Excluding.{never_race}
use Rattle.sw_sound_facts.proofs.Chosen.{each_annotated, states_of}
use Rattle.sw_sound_facts.proofs.Steps.{SomeSecure, secure_step}

-- the colours with which the first frames begin
pub here_of : Frame → Colour
here_of frame = begun_here (actor_on frame.executor) 0 0

pub begins : (frames : List Frame) → HeresBegin frames (map here_of frames)
unfolding here_of
begins frames = record {
  count = length-map frames here_of;
  each = λ i frame colour there at. (
    0,
    sym (some_injective (sym (ap (option_map here_of) there) ∙ sym (slice_get-map here_of frames i)
        ∙ at)),
  );
}

module _ (graph : Graph) (clean : IsClean graph) (supplied : IsSupplied graph)
    (passed : IsPassed graph) where
  abbrev states : ℕ → List (Option Regions)
  states = states_of graph passed

  begun : SomeSecure graph states (start_of graph)
  begun = record {
    colours = record { cells = []; heres = map here_of (start_frames graph) ∷ [] };
    secure = starts_secure graph clean supplied states (each_annotated graph passed)
        (map here_of (start_frames graph)) (begins (start_frames graph));
  }

  stepped : (state : State) (item : ℕ) → SomeSecure graph states state
      → SomeSecure graph states (step_of graph state item)
  stepped = secure_step graph states (values.stays graph states) (values.joins graph states)
      (cells.stays graph states) (cells.joins graph states) (calls_stay graph states)
      (calls_join graph states) (tasks_stay graph states) (tasks_paint graph states)
      (returns_stay graph states) (traps_stay graph states) (dispatches_stay graph states)
      (wakes_stay graph states)

  -- each state that items lead to is secure
  pub secure : (items : List ℕ) → SomeSecure graph states (reach graph items)
  secure = reach_keeps (SomeSecure graph states) graph begun stepped

  pub never_races : (items : List ℕ) → Racing graph (reach graph items) → ⊥
  never_races items =
      let s = secure items in
      never_race graph states (reach graph items) s.colours s.secure
