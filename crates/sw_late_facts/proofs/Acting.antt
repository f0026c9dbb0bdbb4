-- The frame and the point of an act that executes an effect.
use Rattle.std.proofs.Common.{◌≡◌, ℕ, refl, ap, Bool, true, false, cond, Option, Some, None}
use Rattle.std.proofs.Common.{length, slice_get}
use Rattle.std.specs.Prelude.{option_map, option_and_then, is_some}
use Rattle.sw_graph.specs.declared.graph.Graph.{Graph}
use Rattle.sw_graph.specs.Points.{Point}
use Rattle.sw_value.specs.declared.effect.Act.TheVariants.{Dispatch, Wake, Execute}
use Rattle.sw_value.specs.declared.effect.Effect.{Effect}
use Rattle.sw_value.specs.declared.frame.Frame.{Frame}
use Rattle.sw_value.specs.declared.job.Job.{Job}
use Rattle.sw_value.specs.declared.job.Status.{Status}
use Rattle.sw_value.specs.declared.job.Status.TheVariants.{Ready, Running, Waiting, Ended}
use Rattle.sw_value.specs.declared.state.State.{State}
use Rattle.sw_value.specs.declared.value.Value.{Value}
use Rattle.sw_value.specs.Act.{act_of, act_by, execution_of, dispatch_of}
use Rattle.sw_value.specs.Effect.{effect_of, needs, point_effect}
use Rattle.sw_value.specs.Frame.{point_at}
use Rattle.sw_value.specs.Job.{top_frame}
use Rattle.sw_value.specs.State.{is_free, result_of}

-- the job is there with a top frame, which stands at a point
pub record ActsAt (graph : Graph) (state : State) (j : ℕ) : Type 0 where
  pub top : Frame
  pub has : option_and_then top_frame (slice_get state.jobs j) ≡ Some top
  pub point : Point
  pub stands : point_at graph top ≡ Some point

pub acts_at : (graph : Graph) (state : State) (j : ℕ) (e : Effect)
    → act_of graph state j ≡ Some (Execute e) → ActsAt graph state j
unfolding act_of effect_of
acts_at graph state j e acts = halts (is_some state.halted) acts where
  at_point : (depth : ℕ) (top : Frame) → option_and_then top_frame (slice_get state.jobs j) ≡ Some top
      → (o : Option Point) → point_at graph top ≡ o
      → execution_of (needs o (point_effect graph state depth top)) ≡ Some (Execute e)
      → ActsAt graph state j
  at_point depth top has None stands h = cc
  at_point depth top has (Some point) stands h =
      record { top = top; has = has; point = point; stands = stands }

  on_top : (depth : ℕ) (o : Option Frame) → option_and_then top_frame (slice_get state.jobs j) ≡ o
      → option_and_then (λ frame. execution_of (effect_of graph state depth frame)) o
      ≡ Some (Execute e) → ActsAt graph state j
  on_top depth None has h = cc
  on_top depth (Some top) has h = at_point depth top has (point_at graph top) refl h

  no_dispatch : (o : Option Frame) → option_and_then (dispatch_of state) o ≡ Some (Execute e) → ⊥
  no_dispatch None h = cc
  no_dispatch (Some frame) h = by (is_free frame.executor state.jobs) h where
    by : (b : Bool) → cond b (Some Dispatch) None ≡ Some (Execute e) → ⊥
    by true g = cc
    by false g = cc

  no_wake : (on r : ℕ) (o : Option Value) → option_map (Wake on r) o ≡ Some (Execute e) → ⊥
  no_wake on r None h = cc
  no_wake on r (Some v) h = cc

  of_job : (job : Job) → slice_get state.jobs j ≡ Some job → (status : Status)
      → act_by graph state job status ≡ Some (Execute e) → ActsAt graph state j
  of_job job there Ready h = absurd (no_dispatch (top_frame job) h)
  of_job job there (Waiting on r) h = absurd (no_wake on r (result_of state on) h)
  of_job job there Running h =
      on_top (length job.frames) (top_frame job) (ap (option_and_then top_frame) there) h
  of_job job there (Ended v) h = cc

  jobs : (o : Option Job) → slice_get state.jobs j ≡ o
      → option_and_then (λ job. act_by graph state job job.status) o ≡ Some (Execute e)
      → ActsAt graph state j
  jobs None there h = cc
  jobs (Some job) there h = of_job job there job.status h

  halts : (b : Bool) → cond b None (option_and_then (λ job. act_by graph state job job.status)
      (slice_get state.jobs j)) ≡ Some (Execute e) → ActsAt graph state j
  halts true h = cc
  halts false h = jobs (slice_get state.jobs j) refl h
