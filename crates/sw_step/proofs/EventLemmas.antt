-- What the event of an item says.
use Rattle.std.proofs.Common.{◌≡◌, ◌↔◌, ℕ, Bool, true, false, cond, Option, Some, None, refl, ap}
use Rattle.std.proofs.Common.{sym, ◌∙◌}
use Rattle.std.specs.Prelude.{option_and_then, is_some}
use Rattle.std.specs.Option.{option_map}
use Rattle.std.specs.List.{slice_get}
use Rattle.std.specs.Prelude.{length}
use Rattle.sw_graph.specs.declared.graph.Graph.{Graph}
use Rattle.sw_value.specs.declared.value.Value.{Value}
use Rattle.sw_value.specs.declared.effect.Effect.{Effect}
use Rattle.sw_value.specs.declared.effect.Effect.TheVariants as effect
use Rattle.sw_value.specs.declared.effect.Act.{Act}
use Rattle.sw_value.specs.declared.effect.Act.TheVariants.{Dispatch, Wake, Execute}
use Rattle.sw_value.specs.declared.job.Job.{Job}
use Rattle.sw_value.specs.declared.job.Status.{Status}
use Rattle.sw_value.specs.declared.job.Status.TheVariants.{Ready, Running, Waiting, Ended}
use Rattle.sw_value.specs.declared.state.State.{State}
use Rattle.sw_value.specs.declared.state.TrapKind.{TrapKind}
use Rattle.sw_value.specs.Job.{top_frame}
use Rattle.sw_value.specs.State.{is_free, result_of, in_job, add_job, add_cell, in_cell}
use Rattle.sw_value.specs.State.{set_global, halt}
use Rattle.sw_value.specs.Effect.{effect_of}
use Rattle.sw_value.specs.Act.{execution_of, dispatch_of, act_by, act_of}
use Rattle.sw_value.specs.Reach.{after_act, step_of}
use Rattle.sw_value.proofs.ReachLemmas.{after_acts, step_by_act}
use Rattle.sw_step.specs.declared.event.Event.TheVariants.{Nothing, Trapped}
use Rattle.sw_step.specs.Event.{act_event, event_by, event_of}

-- an act has an event that is not Nothing
Says : Option Act → Type 0
Says o = event_by o ≡ Nothing → o ≡ None

execution_says : (e : Effect) → Says (execution_of e)
unfolding Says
execution_says effect.Stuck h = refl
execution_says _ h = cc

and_then_says : {A : Type 0} (f : A → Option Act) → ((x : A) → Says (f x)) → (o : Option A)
    → Says (option_and_then f o)
unfolding Says
and_then_says f says None = λ _. refl
and_then_says f says (Some x) = says x

act_says : (graph : Graph) (state : State) (job : Job) (status : Status)
    → Says (act_by graph state job status)
unfolding Says
act_says graph state job Ready =
    and_then_says (dispatch_of state) (λ frame. by (is_free frame.executor state.jobs))
    (top_frame job) where
      by : (free : Bool) → Says (cond free (Some Dispatch) None)
      by true = λ h. cc
      by false = λ _. refl
act_says graph state job (Waiting on r) = by (result_of state on) where
  by : (o : Option Value) → Says (option_map (Wake on r) o)
  by None = λ _. refl
  by (Some v) = λ h. cc
act_says graph state job Running =
    and_then_says (λ frame. execution_of (effect_of graph state (length job.frames) frame))
    (λ frame. execution_says (effect_of graph state (length job.frames) frame)) (top_frame job)
act_says graph state job (Ended v) = λ _. refl

acts_say : (graph : Graph) (state : State) (j : ℕ) → Says (act_of graph state j)
unfolding act_of Says
acts_say graph state j = by (is_some state.halted) where
  by : (halted : Bool) → Says
      (cond halted None (option_and_then (λ job. act_by graph state job job.status)
      (slice_get state.jobs j)))
  by true = λ _. refl
  by false = and_then_says (λ job. act_by graph state job job.status)
      (λ job. act_says graph state job job.status) (slice_get state.jobs j)

-- the event is Nothing exactly where nothing happens
pub nothing_says : (graph : Graph) (state : State) (j : ℕ) → (event_of graph state j ≡ Nothing)
    ↔ (act_of graph state j ≡ None)
unfolding Says event_of
nothing_says graph state j = (acts_say graph state j, ap event_by)

abbrev trap_of : TrapKind → ℕ → Option (TrapKind × ℕ)
trap_of kind at = Some (kind, at)

-- the trap of a state, after an act
halted_after : (j : ℕ) (state : State) (act : Act) (kind : TrapKind) (at : ℕ) → state.halted ≡ None
    → (act_event act ≡ Trapped kind at) ↔ ((after_act j act state).halted ≡ Some (kind, at))
unfolding in_job add_job add_cell in_cell set_global halt
halted_after j state Dispatch kind at none = (λ h. cc, λ h. cc)
halted_after j state (Wake on r v) kind at none = (λ h. cc, λ h. cc)
halted_after j state (Execute (effect.Halt k a)) kind at none = (to, back) where
  to : Trapped k a ≡ Trapped kind at → trap_of k a ≡ trap_of kind at
  to h =
      let same_kind : k ≡ kind = cc in
      let same_at : a ≡ at = cc in
      ap (λ x. trap_of x a) same_kind ∙ ap (trap_of kind) same_at

  back : trap_of k a ≡ trap_of kind at → Trapped k a ≡ Trapped kind at
  back h =
      let same_kind : k ≡ kind =
      ap (λ (o : Option (TrapKind × ℕ)). elim o [ None ↦ k | Some t ↦ t.0 ]) h in
      let same_at : a ≡ at = ap
      (λ (o : Option (TrapKind × ℕ)). elim o [ None ↦ a | Some t ↦ t.1 ]) h in
      cc
halted_after j state (Execute _) kind at none = (λ h. cc, λ h. cc)

-- nothing happens where the machine is halted
halted_acts : (graph : Graph) (state : State) (j : ℕ) (act : Act) → act_of graph state j ≡ Some act
    → state.halted ≡ None
unfolding act_of
halted_acts graph state j act = by state.halted where
  by : (o : Option (TrapKind × ℕ))
      → cond (is_some o) None
      (option_and_then (λ job. act_by graph state job job.status) (slice_get state.jobs j)) ≡ Some
      act → o ≡ None
  by None h = refl
  by (Some t) h = cc

-- the event is a trap exactly where the step halts the machine
pub trapped_says : (graph : Graph) (state : State) (j : ℕ) (kind : TrapKind) (at : ℕ)
    → (event_of graph state j ≡ Trapped kind at)
    ↔ ((state.halted ≡ None) × ((step_of graph state j).halted ≡ Some (kind, at)))
unfolding event_of
trapped_says graph state j kind at =
    by (act_of graph state j) (halted_acts graph state j) (step_by_act graph state j) where
      by : (o : Option Act) → ((act : Act) → o ≡ Some act → state.halted ≡ None)
          → step_of graph state j ≡ after_acts j o state → (event_by o ≡ Trapped kind at)
          ↔ ((state.halted ≡ None) × ((step_of graph state j).halted ≡ Some (kind, at)))
      by None _ step = (λ h. cc, λ h. cc (h.0, h.1, ap (λ s. s.halted) step))
      by (Some act) runs step =
          let none = runs act refl in
          let says = halted_after j state act kind at none in (
            λ h. (none, ap (λ s. s.halted) step ∙ says.0 h),
            λ h. says.1 (sym (ap (λ s. s.halted) step) ∙ h.1),
          )
