-- What an item makes its job do, beside the access that the job makes next.
use Rattle.std.proofs.Common.{◌≡◌, ℕ, Bool, true, false, cond, Option, Some, None, length, ap}
use Rattle.std.proofs.Common.{◌∙◌}
use Rattle.std.specs.Prelude.{option_and_then, is_some}
use Rattle.std.specs.Option.{option_map}
use Rattle.std.specs.List.{slice_get}
use Rattle.sw_graph.specs.declared.graph.Graph.{Graph}
use Rattle.sw_graph.specs.Points.{Point}
use Rattle.sw_value.specs.declared.effect.Act.{Act}
use Rattle.sw_value.specs.declared.effect.Act.TheVariants.{Dispatch, Wake}
use Rattle.sw_value.specs.declared.frame.Frame.{Frame}
use Rattle.sw_value.specs.declared.job.Job.{Job}
use Rattle.sw_value.specs.declared.job.Status.{Status}
use Rattle.sw_value.specs.declared.job.Status.TheVariants.{Ready, Running, Waiting, Ended}
use Rattle.sw_value.specs.declared.race.Access.{Access}
use Rattle.sw_value.specs.declared.state.State.{State}
use Rattle.sw_value.specs.declared.value.Value.{Value}
use Rattle.sw_value.specs.Access.{point_access, frame_access, job_access, next_access}
use Rattle.sw_value.specs.Act.{execution_of, dispatch_of, act_by, act_of}
use Rattle.sw_value.specs.Effect.{needs, is_stuck, point_effect, effect_of}
use Rattle.sw_value.specs.Frame.{point_at}
use Rattle.sw_value.specs.Job.{top_frame, is_running_status, is_running}
use Rattle.sw_value.specs.State.{is_free, result_of}

-- the access of a frame that stands at a point
abbrev pub access_at : Graph → State → ℕ → ℕ → Frame → Point → Option Access
access_at graph state j depth frame point =
    cond (is_stuck (point_effect graph state depth frame point)) None
    (point_access graph state j frame point)

-- an instruction that is not stuck makes its access
pub access_made : (graph : Graph) (state : State) (j depth : ℕ) (frame : Frame) (point : Point)
    (o : Option Access) → is_stuck (point_effect graph state depth frame point) ≡ false
    → point_access graph state j frame point ≡ o → access_at graph state j depth frame point ≡ o
access_made graph state j depth frame point o free is =
    ap (λ b. cond b None (point_access graph state j frame point)) free ∙ is

-- The act of an item with the next access of its job: only a job that executes an instruction makes
-- an access, that of the point at which it stands.
pub data Next (graph : Graph) (state : State) (j : ℕ) : Option Act → Option Access → Type 0 where
  idle : Next graph state j None None
  dispatches : Next graph state j (Some Dispatch) None
  wakes : (ended r : ℕ) (v : Value) → Next graph state j (Some (Wake ended r v)) None
  executes : (depth : ℕ) (frame : Frame) (point : Point)
      → Next graph state j (execution_of (point_effect graph state depth frame point))
      (access_at graph state j depth frame point)

next_by_top : (graph : Graph) (state : State) (j depth : ℕ) (o : Option Frame)
    → Next graph state j
    (option_and_then (λ frame. execution_of (effect_of graph state depth frame)) o)
    (option_and_then (frame_access graph state j depth) o)
unfolding frame_access effect_of
next_by_top graph state j depth None = idle
next_by_top graph state j depth (Some frame) = by (point_at graph frame) where
  by : (o : Option Point) → Next graph state j
      (execution_of (needs o (point_effect graph state depth frame)))
      (cond (is_stuck (needs o (point_effect graph state depth frame))) None
      (option_and_then (point_access graph state j frame) o))
  by None = idle
  by (Some point) = executes depth frame point

next_by_ready : (graph : Graph) (state : State) (j : ℕ) (o : Option Frame)
    → Next graph state j (option_and_then (dispatch_of state) o) None
next_by_ready graph state j None = idle
next_by_ready graph state j (Some frame) = by (is_free frame.executor state.jobs) where
  by : (free : Bool) → Next graph state j (cond free (Some Dispatch) None) None
  by true = dispatches
  by false = idle

next_by_wait : (graph : Graph) (state : State) (j on r : ℕ) (o : Option Value)
    → Next graph state j (option_map (Wake on r) o) None
next_by_wait graph state j on r None = idle
next_by_wait graph state j on r (Some v) = wakes on r v

next_by_status : (graph : Graph) (state : State) (j : ℕ) (job : Job) (status : Status)
    → Next graph state j (act_by graph state job status) (cond (is_running_status status)
    (option_and_then (frame_access graph state j (length job.frames)) (top_frame job)) None)
next_by_status graph state j job Ready = next_by_ready graph state j (top_frame job)
next_by_status graph state j job Running =
    next_by_top graph state j (length job.frames) (top_frame job)
next_by_status graph state j job (Waiting on r) =
    next_by_wait graph state j on r (result_of state on)
next_by_status graph state j job (Ended v) = idle

pub next_of : (graph : Graph) (state : State) (j : ℕ)
    → Next graph state j (act_of graph state j) (next_access graph state j)
unfolding act_of next_access is_running
next_of graph state j = by (is_some state.halted) where
  by_job : (o : Option Job) → Next graph state j
      (option_and_then (λ job. act_by graph state job job.status) o)
      (option_and_then (job_access graph state j) o)
  by_job None = idle
  by_job (Some job) = next_by_status graph state j job job.status

  by : (halted : Bool) → Next graph state j
      (cond halted None (option_and_then (λ job. act_by graph state job job.status)
      (slice_get state.jobs j)))
      (cond halted None (option_and_then (job_access graph state j) (slice_get state.jobs j)))
  by true = idle
  by false = by_job (slice_get state.jobs j)
