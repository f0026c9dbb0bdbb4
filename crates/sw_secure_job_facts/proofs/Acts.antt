-- What it takes for an item to make its job do something.
use Rattle.std.proofs.Common.{◌≡◌, ℕ, Bool, true, false, cond, is_some, Option, Some, None}
use Rattle.std.proofs.Common.{length, refl, sym, ap, ◌∙◌}
use Rattle.std.specs.Option.{option_and_then, option_map}
use Rattle.std.specs.List.{slice_get}
use Rattle.sw_graph.specs.declared.graph.Graph.{Graph}
use Rattle.sw_value.specs.declared.effect.Act.{Act}
use Rattle.sw_value.specs.declared.effect.Act.TheVariants.{Dispatch, Wake}
use Rattle.sw_value.specs.declared.effect.Effect.{Effect}
use Rattle.sw_value.specs.declared.effect.Effect.TheVariants as effect
use Rattle.sw_value.specs.declared.frame.Frame.{Frame}
use Rattle.sw_value.specs.declared.job.Job.{Job}
use Rattle.sw_value.specs.declared.job.Status.{Status}
use Rattle.sw_value.specs.declared.job.Status.TheVariants.{Ready, Running, Waiting, Ended}
use Rattle.sw_value.specs.declared.state.State.{State}
use Rattle.sw_value.specs.declared.value.Value.{Value}
use Rattle.sw_value.specs.Act.{act_by, act_of, dispatch_of, execution_of}
use Rattle.sw_value.specs.Effect.{effect_of}
use Rattle.sw_value.specs.Job.{ended_with, top_frame}
use Rattle.sw_value.specs.State.{is_free, result_of}

-- the job that an item names acts by its status
pub acts_by : (graph : Graph) (state : State) (j : ℕ) (act : Act)
    → act_of graph state j ≡ Some act → (job : Job) × (slice_get state.jobs j ≡ Some job)
    × (act_by graph state job job.status ≡ Some act)
unfolding act_of
acts_by graph state j act acts = halted (is_some state.halted) acts where
  found : (o : Option Job) → slice_get state.jobs j ≡ o
      → option_and_then (λ job. act_by graph state job job.status) o ≡ Some act
      → (job : Job) × (slice_get state.jobs j ≡ Some job)
      × (act_by graph state job job.status ≡ Some act)
  found None there is = cc
  found (Some job) there is = (job, there, is)

  halted : (b : Bool) → cond b None (option_and_then (λ job. act_by graph state job job.status)
      (slice_get state.jobs j)) ≡ Some act → (job : Job) × (slice_get state.jobs j ≡ Some job)
      × (act_by graph state job job.status ≡ Some act)
  halted true is = cc
  halted false is = found (slice_get state.jobs j) refl is

no_wake : (e : Effect) (ended r : ℕ) (v : Value) → execution_of e ≡ Some (Wake ended r v) → ⊥
no_wake (effect.Set s w next) ended r v is = cc
no_wake (effect.SetField s i w next) ended r v is = cc
no_wake (effect.Print s line next) ended r v is = cc
no_wake (effect.New s cell number next) ended r v is = cc
no_wake (effect.Write c slot w next) ended r v is = cc
no_wake (effect.WriteGlobal g w next) ended r v is = cc
no_wake (effect.Goto next) ended r v is = cc
no_wake (effect.Wait on s next) ended r v is = cc
no_wake (effect.Rest s next) ended r v is = cc
no_wake (effect.Enter frame next) ended r v is = cc
no_wake (effect.Leave w) ended r v is = cc
no_wake (effect.Spawn s frame job cell next) ended r v is = cc
no_wake (effect.Halt kind at) ended r v is = cc
no_wake effect.Stuck ended r v is = cc

-- A job that wakes waited for one that has ended with the value.
pub record Wakes (state : State) (j ended r : ℕ) (v : Value) : Type 0 where
  pub job : Job
  pub there : slice_get state.jobs j ≡ Some job
  pub waited : job.status ≡ Waiting ended r
  pub other : Job
  pub other_there : slice_get state.jobs ended ≡ Some other
  pub over : other.status ≡ Ended v

result_is : (state : State) (on : ℕ) (v : Value) → result_of state on ≡ Some v
    → (other : Job) × (slice_get state.jobs on ≡ Some other) × (other.status ≡ Ended v)
unfolding result_of
result_is state on v is = by (slice_get state.jobs on) refl is where
  status : (s : Status) → ended_with s ≡ Some v → s ≡ Ended v
  status Ready is = cc
  status Running is = cc
  status (Waiting other r) is = cc
  status (Ended w) is = cc

  by : (o : Option Job) → slice_get state.jobs on ≡ o
      → option_and_then (λ (job : Job). ended_with job.status) o ≡ Some v
      → (other : Job) × (slice_get state.jobs on ≡ Some other) × (other.status ≡ Ended v)
  by None there is = cc
  by (Some other) there is = (other, there, status other.status is)

pub wakes_from : (graph : Graph) (state : State) (j ended r : ℕ) (v : Value)
    → act_of graph state j ≡ Some (Wake ended r v) → Wakes state j ended r v
wakes_from graph state j ended r v acts =
    let found = acts_by graph state j (Wake ended r v) acts in
    by found.0 found.1 found.0.status refl found.2
  where
    by : (job : Job) → slice_get state.jobs j ≡ Some job → (s : Status) → job.status ≡ s
        → act_by graph state job s ≡ Some (Wake ended r v) → Wakes state j ended r v
    by job there Ready status is = dispatches (top_frame job) is where
      free : (b : Bool) → cond b (Some Dispatch) None ≡ Some (Wake ended r v)
          → Wakes state j ended r v
      free true is = cc
      free false is = cc

      dispatches : (o : Option Frame)
          → option_and_then (dispatch_of state) o ≡ Some (Wake ended r v)
          → Wakes state j ended r v
      dispatches None is = cc
      dispatches (Some frame) is = free (is_free frame.executor state.jobs) is
    by job there (Waiting on s) status is = waiting (result_of state on) refl is where
      waiting : (o : Option Value) → result_of state on ≡ o
          → option_map (Wake on s) o ≡ Some (Wake ended r v) → Wakes state j ended r v
      waiting None result is = cc
      waiting (Some w) result is =
          let on_is : on ≡ ended = cc in
          let s_is : s ≡ r = cc in
          let w_is : w ≡ v = cc in
          let over = result_is state ended v (ap (result_of state) (sym on_is) ∙ result
          ∙ ap Some w_is) in
          record {
            job = job;
            there = there;
            waited = status ∙ ap (λ n. Waiting n s) on_is ∙ ap (Waiting ended) s_is;
            other = over.0;
            other_there = over.1;
            over = over.2;
          }
    by job there Running status is = runs (top_frame job) is where
      runs : (o : Option Frame) → option_and_then (λ frame. execution_of
          (effect_of graph state (length job.frames) frame)) o ≡ Some (Wake ended r v)
          → Wakes state j ended r v
      runs None is = cc
      runs (Some frame) is = absurd (no_wake
          (effect_of graph state (length job.frames) frame) ended r v is)
    by job there (Ended w) status is = cc
