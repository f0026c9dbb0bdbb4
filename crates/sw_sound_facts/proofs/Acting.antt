-- The job and the point of an item that executes an effect.
use Rattle.std.proofs.Common.{◌≡◌, ◌-◌, ℕ, Bool, true, false, cond, Option, Some, None, length}
use Rattle.std.proofs.Common.{refl, sym, ap, ◌∙◌, arith}
use Rattle.std.specs.Option.{option_map, option_and_then, is_some}
use Rattle.std.specs.List.{slice_get}
use Rattle.std.proofs.lemmas.Option.{slice_get_within}
use Rattle.sw_graph.specs.declared.function.Function.{Function}
use Rattle.sw_graph.specs.declared.graph.Graph.{Graph}
use Rattle.sw_graph.specs.Points.{Point, point_in}
use Rattle.sw_value.specs.declared.effect.Act.TheVariants.{Dispatch, Wake, Execute}
use Rattle.sw_value.specs.declared.effect.Effect.{Effect}
use Rattle.sw_value.specs.declared.effect.Effect.TheVariants as effect
use Rattle.sw_value.specs.declared.frame.Frame.{Frame}
use Rattle.sw_value.specs.declared.job.Job.{Job}
use Rattle.sw_value.specs.declared.job.Status.{Status}
use Rattle.sw_value.specs.declared.job.Status.TheVariants.{Ready, Running, Waiting, Ended}
use Rattle.sw_value.specs.declared.state.State.{State}
use Rattle.sw_value.specs.declared.value.Value.{Value}
use Rattle.sw_value.specs.Act.{act_by, act_of, dispatch_of, execution_of}
use Rattle.sw_value.specs.Effect.{effect_of, needs, point_effect}
use Rattle.sw_value.specs.Frame.{point_at}
use Rattle.sw_value.specs.Job.{top_frame}
use Rattle.sw_value.specs.State.{is_free, result_of}
use Rattle.sw_owner_facts.specs.View.{Frame as Spot}
use Rattle.sw_view_facts.specs.Standing.{StandsAt}
use Rattle.sw_view_facts.proofs.StandingLemmas.{halts_not, stands_at_top, top_of}

pub record ExecutesAt (graph : Graph) (state : State) (j : ℕ) (e : Effect) : Type 0 where
  pub q : Spot
  pub is_job : q.job ≡ j
  pub job : Job
  pub frame : Frame
  pub function : Function
  pub point : Point
  pub stands : StandsAt graph state q job frame function point
  pub gives : point_effect graph state (length job.frames) frame point ≡ e
  pub unstuck : e ≡ effect.Stuck → ⊥

-- an effect that is executed is the one of the point
executed : (found e : Effect) → execution_of found ≡ Some (Execute e) → found ≡ e
executed (effect.Set r v next) e is = cc
executed (effect.SetField r i v next) e is = cc
executed (effect.Print r line next) e is = cc
executed (effect.New r cell number next) e is = cc
executed (effect.Write c slot v next) e is = cc
executed (effect.WriteGlobal g v next) e is = cc
executed (effect.Goto next) e is = cc
executed (effect.Wait on r next) e is = cc
executed (effect.Rest r next) e is = cc
executed (effect.Enter frame next) e is = cc
executed (effect.Leave v) e is = cc
executed (effect.Spawn r frame job cell next) e is = cc
executed (effect.Halt kind at) e is = cc
executed effect.Stuck e is = cc

-- no instruction that is stuck is executed
executed_not : (found : Effect) → execution_of found ≡ Some (Execute effect.Stuck) → ⊥
executed_not found is =
    let stuck = executed found effect.Stuck is in
    let clash : None ≡ Some (Execute effect.Stuck) = sym (ap execution_of stuck) ∙ is in
    cc

pub executes_at : (graph : Graph) (state : State) (j : ℕ) (e : Effect)
    → act_of graph state j ≡ Some (Execute e) → ExecutesAt graph state j e
unfolding act_of effect_of point_at
executes_at graph state j e acts = halted (is_some state.halted) refl acts where
  at_point : (job : Job) → slice_get state.jobs j ≡ Some job → job.status ≡ Running
      → (frame : Frame) → top_frame job ≡ Some frame → state.halted ≡ None
      → (function : Function) → slice_get graph.functions frame.function ≡ Some function
      → (o : Option Point) → point_in function frame.point ≡ o
      → execution_of (needs o (point_effect graph state (length job.frames) frame))
      ≡ Some (Execute e) → ExecutesAt graph state j e
  at_point job there runs frame top on function is None here acts = cc
  at_point job there runs frame top on function is (Some point) here acts = record {
    q = top_of j job;
    is_job = refl;
    job = job;
    frame = frame;
    function = function;
    point = point;
    stands = stands_at_top graph state j job there runs frame top on function is point here;
    gives = executed (point_effect graph state (length job.frames) frame point) e acts;
    unstuck = λ stuck. executed_not (point_effect graph state (length job.frames) frame point)
        (acts ∙ ap (λ x. Some (Execute x)) stuck);
  }

  at_function : (job : Job) → slice_get state.jobs j ≡ Some job → job.status ≡ Running
      → (frame : Frame) → top_frame job ≡ Some frame → state.halted ≡ None
      → (o : Option Function) → slice_get graph.functions frame.function ≡ o
      → execution_of (needs (option_and_then (λ (f : Function). point_in f frame.point) o)
      (point_effect graph state (length job.frames) frame)) ≡ Some (Execute e)
      → ExecutesAt graph state j e
  at_function job there runs frame top on None is acts = cc
  at_function job there runs frame top on (Some function) is acts =
      at_point job there runs frame top on function is (point_in function frame.point) refl acts

  at_top : (job : Job) → slice_get state.jobs j ≡ Some job → job.status ≡ Running
      → state.halted ≡ None → (o : Option Frame) → top_frame job ≡ o
      → option_and_then (λ (frame : Frame).
      execution_of (effect_of graph state (length job.frames) frame)) o ≡ Some (Execute e)
      → ExecutesAt graph state j e
  at_top job there runs on None top acts = cc
  at_top job there runs on (Some frame) top acts = at_function job there runs frame top on
      (slice_get graph.functions frame.function) refl acts

  dispatches : (b : Bool) → cond b (Some Dispatch) None ≡ Some (Execute e) → ⊥
  dispatches true acts = cc
  dispatches false acts = cc

  ready : (o : Option Frame) → option_and_then (dispatch_of state) o ≡ Some (Execute e) → ⊥
  ready None acts = cc
  ready (Some frame) acts = dispatches (is_free frame.executor state.jobs) acts

  waits : (on r : ℕ) (o : Option Value) → option_map (Wake on r) o ≡ Some (Execute e) → ⊥
  waits on r None acts = cc
  waits on r (Some v) acts = cc

  by_status : (job : Job) → slice_get state.jobs j ≡ Some job → state.halted ≡ None
      → (status : Status) → job.status ≡ status
      → act_by graph state job status ≡ Some (Execute e) → ExecutesAt graph state j e
  by_status job there on Running status acts =
      at_top job there status on (top_frame job) refl acts
  by_status job there on Ready status acts = absurd (ready (top_frame job) acts)
  by_status job there on (Waiting other r) status acts =
      absurd (waits other r (result_of state other) acts)
  by_status job there on (Ended v) status acts = cc

  of_job : state.halted ≡ None → (o : Option Job) → slice_get state.jobs j ≡ o
      → option_and_then (λ (job : Job). act_by graph state job job.status) o ≡ Some (Execute e)
      → ExecutesAt graph state j e
  of_job on None there acts = cc
  of_job on (Some job) there acts = by_status job there on job.status refl acts

  halted : (b : Bool) → is_some state.halted ≡ b
      → cond b None (option_and_then (λ (job : Job). act_by graph state job job.status)
      (slice_get state.jobs j)) ≡ Some (Execute e) → ExecutesAt graph state j e
  halted true is acts = cc
  halted false is acts =
      of_job (halts_not state is) (slice_get state.jobs j) refl acts

pub stuck_executes_not : (graph : Graph) (state : State) (j : ℕ)
    → act_of graph state j ≡ Some (Execute effect.Stuck) → ⊥
stuck_executes_not graph state j acts =
    let at = executes_at graph state j effect.Stuck acts in
    at.unstuck refl
