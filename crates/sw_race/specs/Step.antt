-- The races that the step of a job brings in.
use Rattle.std.specs.Prelude.{◌≡◌, ℕ, false, IsTrue, Some, slice_get, length}
use Rattle.sw_graph.specs.declared.graph.Graph.{Graph}
use Rattle.sw_value.specs.declared.frame.Frame.{Frame}
use Rattle.sw_value.specs.declared.job.Job.{Job}
use Rattle.sw_value.specs.declared.race.Access.{Access}
use Rattle.sw_value.specs.declared.race.Race.{Race}
use Rattle.sw_value.specs.declared.state.State.{State}
use Rattle.sw_value.specs.Access.{next_access}
use Rattle.sw_value.specs.Effect.{effect_of, is_stuck}
use Rattle.sw_value.specs.Job.{top_frame, is_running}
use Rattle.sw_value.specs.Racing.{Racing, IsRace}
use Rattle.sw_value.specs.Reach.{step_of}
use Rattle.sw_race.specs.With.{IsRaceOf, IsRival}

-- no running job is stuck
abbrev pub IsNowhereStuck : Graph → State → Type 0
IsNowhereStuck graph state = (k : ℕ) (job : Job) (frame : Frame) → slice_get state.jobs k ≡ Some job
    → IsTrue (is_running job) → top_frame job ≡ Some frame
    → is_stuck (effect_of graph state (length job.frames) frame) ≡ false

-- From the state, if it is not racing, the step of job j brings in races of job j alone.
abbrev pub BringsInItsOwn : Graph → State → ℕ → Type 0
BringsInItsOwn graph state j = ¬ Racing graph state → (race : Race)
    → IsRace graph (step_of graph state j) race → IsRaceOf graph (step_of graph state j) j race

-- Job j is about to make an access, and another job one that conflicts with it.
pub record HasRival (graph : Graph) (state : State) (j : ℕ) : Type 0 where
  pub access : Access
  pub rival : Access
  pub next : next_access graph state j ≡ Some access
  pub is_rival : IsRival graph state access rival
