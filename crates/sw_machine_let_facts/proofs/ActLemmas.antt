-- What an item makes its job do, and at which point the job stands if it executes an instruction.
use Rattle.std.proofs.Common.{◌≡◌, ℕ, Bool, true, false, cond, Option, Some, None, length}
use Rattle.std.proofs.Common.{refl, ap, IsTrue}
use Rattle.std.specs.Prelude.{option_and_then, is_some}
use Rattle.std.specs.Option.{option_map}
use Rattle.std.specs.List.{slice_get}
use Rattle.sw_graph.specs.declared.function.Function.{Function}
use Rattle.sw_graph.specs.declared.graph.Graph.{Graph}
use Rattle.sw_graph.specs.Points.{Point, point_in}
use Rattle.sw_value.specs.declared.effect.Act.{Act}
use Rattle.sw_value.specs.declared.effect.Act.TheVariants.{Dispatch, Wake}
use Rattle.sw_value.specs.declared.effect.Effect.{Effect}
use Rattle.sw_value.specs.declared.effect.Effect.TheVariants as effect
use Rattle.sw_value.specs.declared.frame.Frame.{Frame}
use Rattle.sw_value.specs.declared.job.Job.{Job}
use Rattle.sw_value.specs.declared.job.Status.{Status}
use Rattle.sw_value.specs.declared.job.Status.TheVariants.{Ready, Running, Waiting, Ended}
use Rattle.sw_value.specs.declared.state.State.{State}
use Rattle.sw_value.specs.declared.value.Value.{Value}
use Rattle.sw_value.specs.Act.{execution_of, dispatch_of, act_by, act_of}
use Rattle.sw_value.specs.Effect.{needs, point_effect, effect_of}
use Rattle.sw_value.specs.Frame.{point_at}
use Rattle.sw_value.specs.Job.{top_frame, is_running_status, is_running}
use Rattle.sw_value.specs.Reach.{after_effect}
use Rattle.sw_value.specs.State.{is_free, result_of}
use Rattle.sw_value.proofs.ReachLemmas.{after_acts}

-- Job j runs, and its top frame stands at a point.
pub record Executes (graph : Graph) (state : State) (j : ℕ) : Type 0 where
  pub job : Job
  pub at : slice_get state.jobs j ≡ Some job
  pub runs : IsTrue (is_running job)
  pub frame : Frame
  pub top : top_frame job ≡ Some frame
  pub function : Function
  pub is : slice_get graph.functions frame.function ≡ Some function
  pub point : Point
  pub here : point_in function frame.point ≡ Some point

-- what the point asks for
abbrev pub asked : (graph : Graph) (state : State) (j : ℕ) → Executes graph state j → Effect
asked graph state j x = point_effect graph state (length x.job.frames) x.frame x.point

-- the job does nothing, begins or goes on, or executes what stands at its point
pub data Does (graph : Graph) (state : State) (j : ℕ) : Option Act → Type 0 where
  idle : Does graph state j None
  dispatches : Does graph state j (Some Dispatch)
  wakes : (ended r : ℕ) (v : Value) → Does graph state j (Some (Wake ended r v))
  executes : (x : Executes graph state j)
      → Does graph state j (execution_of (asked graph state j x))

-- what stands at the point of a frame
stands_at : (graph : Graph) (frame : Frame) (point : Point) → point_at graph frame ≡ Some point
    → (function : Function) × (slice_get graph.functions frame.function ≡ Some function)
    × (point_in function frame.point ≡ Some point)
unfolding point_at
stands_at graph frame point = by (slice_get graph.functions frame.function) refl where
  by : (o : Option Function) → slice_get graph.functions frame.function ≡ o
      → option_and_then (λ (f : Function). point_in f frame.point) o ≡ Some point
      → (function : Function) × (slice_get graph.functions frame.function ≡ Some function)
      × (point_in function frame.point ≡ Some point)
  by None is here = cc
  by (Some function) is here = (function, is, here)

frame_does : (graph : Graph) (state : State) (j : ℕ) (job : Job)
    → slice_get state.jobs j ≡ Some job → IsTrue (is_running job) → (frame : Frame)
    → top_frame job ≡ Some frame
    → Does graph state j (execution_of (effect_of graph state (length job.frames) frame))
unfolding effect_of
frame_does graph state j job at runs frame top = by (point_at graph frame) refl where
  by : (o : Option Point) → point_at graph frame ≡ o
      → Does graph state j
      (execution_of (needs o (point_effect graph state (length job.frames) frame)))
  by None found = idle
  by (Some point) found =
      let stands = stands_at graph frame point found in
      executes (record {
        job = job;
        at = at;
        runs = runs;
        frame = frame;
        top = top;
        function = stands.0;
        is = stands.1;
        point = point;
        here = stands.2;
      })

job_does : (graph : Graph) (state : State) (j : ℕ) (job : Job)
    → slice_get state.jobs j ≡ Some job → (status : Status) → job.status ≡ status
    → Does graph state j (act_by graph state job status)
unfolding is_running
job_does graph state j job at Ready is = by (top_frame job) where
  pick : (free : Bool) → Does graph state j (cond free (Some Dispatch) None)
  pick true = dispatches
  pick false = idle

  by : (o : Option Frame) → Does graph state j (option_and_then (dispatch_of state) o)
  by None = idle
  by (Some frame) = pick (is_free frame.executor state.jobs)
job_does graph state j job at (Waiting on r) is = by (result_of state on) where
  by : (o : Option Value) → Does graph state j (option_map (Wake on r) o)
  by None = idle
  by (Some v) = wakes on r v
job_does graph state j job at Running is = by (top_frame job) refl where
  by : (o : Option Frame) → top_frame job ≡ o
      → Does graph state j (option_and_then
      (λ frame. execution_of (effect_of graph state (length job.frames) frame)) o)
  by None top = idle
  by (Some frame) top = frame_does graph state j job at (ap is_running_status is) frame top
job_does graph state j job at (Ended v) is = idle

pub does : (graph : Graph) (state : State) (j : ℕ) → Does graph state j (act_of graph state j)
unfolding act_of
does graph state j = by (is_some state.halted) where
  by_job : (o : Option Job) → slice_get state.jobs j ≡ o
      → Does graph state j (option_and_then (λ job. act_by graph state job job.status) o)
  by_job None at = idle
  by_job (Some job) at = job_does graph state j job at job.status refl

  by : (halted : Bool) → Does graph state j (cond halted None
      (option_and_then (λ job. act_by graph state job job.status) (slice_get state.jobs j)))
  by true = idle
  by false = by_job (slice_get state.jobs j) refl

-- an instruction that is stuck changes nothing
pub executed : (j : ℕ) (e : Effect) (state : State)
    → after_acts j (execution_of e) state ≡ after_effect j e state
executed j effect.Stuck state = refl
executed j e state = refl
