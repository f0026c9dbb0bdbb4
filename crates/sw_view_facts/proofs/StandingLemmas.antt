-- Where the top frame of a running job stands.
use Rattle.std.proofs.Common.{◌≡◌, ◌-◌, ℕ, false, Option, Some, None, length, arith}
use Rattle.std.specs.Option.{is_some}
use Rattle.std.specs.List.{slice_get}
use Rattle.std.proofs.lemmas.Option.{slice_get_within}
use Rattle.sw_graph.specs.declared.function.Function.{Function}
use Rattle.sw_graph.specs.declared.graph.Graph.{Graph}
use Rattle.sw_graph.specs.Points.{Point, point_in}
use Rattle.sw_value.specs.declared.frame.Frame.{Frame}
use Rattle.sw_value.specs.declared.job.Job.{Job}
use Rattle.sw_value.specs.declared.job.Status.TheVariants.{Running}
use Rattle.sw_value.specs.declared.state.State.{State}
use Rattle.sw_value.specs.Job.{top_frame}
use Rattle.sw_owner_facts.specs.View.{Frame as Spot}
use Rattle.sw_reach_facts.proofs.ElementLemmas.{none_of}
use Rattle.sw_view_facts.specs.Standing.{StandsAt}

-- a state that isn't halted goes on
pub halts_not : (state : State) → is_some state.halted ≡ false → state.halted ≡ None
halts_not state = none_of state.halted

-- the place of the top frame of a job
abbrev pub top_of : ℕ → Job → Spot
top_of j job = record { job = j; depth = length job.frames - 1 }

pub stands_at_top : (graph : Graph) (state : State) (j : ℕ) (job : Job)
    → slice_get state.jobs j ≡ Some job → job.status ≡ Running → (frame : Frame)
    → top_frame job ≡ Some frame → state.halted ≡ None → (function : Function)
    → slice_get graph.functions frame.function ≡ Some function → (point : Point)
    → point_in function frame.point ≡ Some point
    → StandsAt graph state (top_of j job) job frame function point
unfolding top_frame
stands_at_top graph state j job there runs frame top on function is point here = record {
  top = record {
    there = there;
    top = top;
    height =
        let inside = slice_get_within job.frames (length job.frames - 1) frame top in
        omega (arith, inside);
  };
  running = runs;
  goes_on = on;
  is = is;
  here = here;
}
