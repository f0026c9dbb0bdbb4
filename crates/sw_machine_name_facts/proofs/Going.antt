-- What the registers of jobs name after a step, and what jobs ended with; on which actors frames run.
use Rattle.std.proofs.Common.{◌≡◌, ℕ, zero, suc, ◌-◌, ◌⊎◌, inl, inr, Bool, true, false, cond, Option}
use Rattle.std.proofs.Common.{Some, None, List, [], ◌∷◌, length, take, Contains, refl, ap, sym, ◌∙◌}
use Rattle.std.proofs.Common.{subst}
use Rattle.std.specs.Prelude.{option_and_then}
use Rattle.std.specs.List.{slice_get}
use Rattle.sw_list.proofs.ListLemmas.{some_injective}
use Rattle.sw_graph.specs.declared.graph.Graph.{Graph}
use Rattle.sw_value.specs.declared.effect.Act.{Act}
use Rattle.sw_value.specs.declared.effect.Act.TheVariants.{Dispatch, Wake, Execute}
use Rattle.sw_value.specs.declared.effect.Effect.TheVariants as effect
use Rattle.sw_value.specs.declared.executor.Executor.TheVariants.{ActorOf}
use Rattle.sw_value.specs.declared.frame.Frame.{Frame}
use Rattle.sw_value.specs.declared.job.Job.{Job}
use Rattle.sw_value.specs.declared.job.Status.{Status}
use Rattle.sw_value.specs.declared.job.Status.TheVariants.{Ready}
use Rattle.sw_value.specs.declared.state.State.{State}
use Rattle.sw_value.specs.declared.value.Value.{Value}
use Rattle.sw_value.specs.Act.{act_of}
use Rattle.sw_value.specs.Job.{top_frame, new_job, in_top, dispatch, wake, enter, wait, rest}
use Rattle.sw_value.specs.Job.{return_to, return_from, leave, ended_with}
use Rattle.sw_value.specs.Reach.{step_of}
use Rattle.sw_value.specs.State.{result_of}
use Rattle.sw_machine_let_facts.proofs.ActLemmas.{Executes, asked}
use Rattle.sw_reach_facts.specs.Reached.{references}
use Rattle.sw_machine_name_facts.specs.Given.{ActGives, IsStepped}
use Rattle.sw_machine_name_facts.specs.Names.{RegistersName, JobNames, ResultNames, StandsOn}
use Rattle.sw_machine_name_facts.proofs.Acts.{by_act}
use Rattle.sw_machine_name_facts.proofs.Frames.{Brings, FrameAfter, turns, entered, frame_after}
use Rattle.sw_machine_name_facts.proofs.Jobs.{JobAfter, stays, changes, begins, changed, begun_frame}
use Rattle.sw_machine_name_facts.proofs.Jobs.{job_after}
use Rattle.sw_machine_name_facts.proofs.NewFrames.{point_frame}

-- ---- names
frame_gives : (act : Act) (frame : Frame) (k : ℕ) → begun_frame act ≡ Some frame
    → RegistersName frame.regs k → ActGives act k
frame_gives (Execute (effect.Enter new next)) frame k is names =
    subst (λ (f : Frame). RegistersName f.regs k) (sym (some_injective is)) names
frame_gives (Execute (effect.Spawn r new task c next)) frame k is names =
    subst (λ (f : Frame). RegistersName f.regs k) (sym (some_injective is)) names
frame_gives act frame k is names = cc

-- the one frame of a job that is made
first_frame_is : (new : Frame) (job : Job) (depth : ℕ) (frame : Frame)
    → new_job (new ∷ []) ≡ job → slice_get job.frames depth ≡ Some frame → new ≡ frame
unfolding new_job
first_frame_is new job depth frame is at =
    by depth (ap (λ (b : Job). slice_get b.frames depth) is ∙ at) where
      by : (d : ℕ) → slice_get (new ∷ []) d ≡ Some frame → new ≡ frame
      by zero at = some_injective at
      by (suc d) at = cc

pub jobs_name : (graph : Graph) (state : State) (j : ℕ) (act : Act)
    → act_of graph state j ≡ Some act → (i k : ℕ) → JobNames (step_of graph state j) i k
    → JobNames state i k ⊎ (IsStepped j act i × Brings act k)
jobs_name graph state j act is i k n =
    by n.job (job_after graph state j act is i n.job n.there) n.at where
      of_frame : i ≡ j → (old : Job) → slice_get state.jobs j ≡ Some old
          → FrameAfter old act n.depth n.frame
          → JobNames state i k ⊎ (IsStepped j act i × Brings act k)
      of_frame here old was (turns before there t) = elim (t.names k n.names) [
        | inl named ↦ inl (record {
          job = old;
          there = ap (slice_get state.jobs) here ∙ was;
          depth = n.depth;
          frame = before;
          at = there;
          names = named;
        })
        | inr brings ↦ inr (inl here, brings)
      ]
      of_frame here old was (entered pushed) =
          inr (inl here, inl (frame_gives act n.frame k pushed n.names))

      by : (job : Job) → JobAfter state act j i job → slice_get job.frames n.depth ≡ Some n.frame
          → JobNames state i k ⊎ (IsStepped j act i × Brings act k)
      by job (stays was) at = inl (record {
        job = job;
        there = was;
        depth = n.depth;
        frame = n.frame;
        at = at;
        names = n.names;
      })
      by job (changes here old was same) at =
          of_frame here old was
          (frame_after act old n.depth n.frame
          (ap (λ (b : Job). slice_get b.frames n.depth) same ∙ at))
      by job (begins made new pushed same) at =
          inr (
            inr made,
            inl (frame_gives act n.frame k
                (pushed ∙ ap Some (first_frame_is new job n.depth n.frame same at)) n.names),
          )

-- ---- results
unended : (crossing : Bool) (status : Status) (v : Value)
    → ended_with (cond crossing Ready status) ≡ Some v → ended_with status ≡ Some v
unended true status v is = cc
unended false status v is = is

-- a job that has ended after an act had ended before, or the act gives its result
ended_after : (act : Act) (job : Job) (v : Value) (k : ℕ)
    → ended_with (changed act job).status ≡ Some v → Contains (references v) k
    → (ended_with job.status ≡ Some v) ⊎ ActGives act k
unfolding in_top dispatch wake enter wait rest leave
ended_after Dispatch job v k is names = cc
ended_after (Wake ended r w) job v k is names = cc
ended_after (Execute (effect.Enter frame next)) job v k is names =
    inl (unended frame.crossing job.status v is)
ended_after (Execute (effect.Wait on r next)) job v k is names = cc
ended_after (Execute (effect.Rest r next)) job v k is names = cc
ended_after (Execute (effect.Leave w)) job v k is names = by (top_frame job) is where
  below : (fs : List Frame) (top : Frame)
      → ended_with (return_to fs top w job.status).status ≡ Some v
      → (ended_with job.status ≡ Some v) ⊎ Contains (references w) k
  below [] top is =
      inr (subst (λ u. Contains (references u) k) (sym (some_injective is)) names)
  below (f ∷ fs) top is = inl (unended top.crossing job.status v is)

  by : (o : Option Frame) → ended_with (return_from o w job).status ≡ Some v
      → (ended_with job.status ≡ Some v) ⊎ Contains (references w) k
  by None is = inl is
  by (Some top) is = below (take (length job.frames - 1) job.frames) top is
ended_after (Execute e) job v k is names = inl is

-- a job with a result
record HasEnded (state : State) (i : ℕ) (v : Value) : Type 0 where
  job : Job
  there : slice_get state.jobs i ≡ Some job
  is : ended_with job.status ≡ Some v

has_ended : (state : State) (i : ℕ) (v : Value) → result_of state i ≡ Some v → HasEnded state i v
unfolding result_of
has_ended state i v = by (slice_get state.jobs i) refl where
  by : (o : Option Job) → slice_get state.jobs i ≡ o
      → option_and_then (λ (job : Job). ended_with job.status) o ≡ Some v → HasEnded state i v
  by None there is = cc
  by (Some job) there is = record { job = job; there = there; is = is }

result_is : (state : State) (i : ℕ) (job : Job) (v : Value) → slice_get state.jobs i ≡ Some job
    → ended_with job.status ≡ Some v → result_of state i ≡ Some v
unfolding result_of
result_is state i job v there is =
    ap (option_and_then (λ (b : Job). ended_with b.status)) there ∙ is

pub results_name : (graph : Graph) (state : State) (j : ℕ) (act : Act)
    → act_of graph state j ≡ Some act → (i k : ℕ) → ResultNames (step_of graph state j) i k
    → ResultNames state i k ⊎ ((i ≡ j) × ActGives act k)
unfolding new_job
results_name graph state j act is i k n =
    let e = has_ended (step_of graph state j) i n.value n.ended in
    by e.job (job_after graph state j act is i e.job e.there) e.is where
      result : (job : Job) → slice_get state.jobs i ≡ Some job
          → ended_with job.status ≡ Some n.value → ResultNames state i k
      result job was has = record {
        value = n.value;
        ended = result_is state i job n.value was has;
        names = n.names;
      }

      by : (job : Job) → JobAfter state act j i job → ended_with job.status ≡ Some n.value
          → ResultNames state i k ⊎ ((i ≡ j) × ActGives act k)
      by job (stays was) has = inl (result job was has)
      by job (changes here old was same) has =
          elim (ended_after act old n.value k
          (ap (λ (b : Job). ended_with b.status) same ∙ has) n.names) [
            | inl before ↦ inl (result old (ap (slice_get state.jobs) here ∙ was) before)
            | inr gives ↦ inr (here, gives)
          ]
      by job (begins made new pushed same) has =
          absurd (let clash : None ≡ Some n.value =
          ap (λ (b : Job). ended_with b.status) same ∙ has in let z : ⊥ = cc in z)

-- ---- executors
-- a frame that an act begins runs on an actor of the job, or on one that the act gives
begun_on : (graph : Graph) (state : State) (j : ℕ) (act : Act) → act_of graph state j ≡ Some act
    → (frame : Frame) → begun_frame act ≡ Some frame → (c : ℕ) → frame.executor ≡ ActorOf c
    → StandsOn state j c ⊎ ActGives act c
unfolding top_frame
begun_on graph state j =
    by_act (λ act. (frame : Frame) → begun_frame act ≡ Some frame → (c : ℕ)
    → frame.executor ≡ ActorOf c → StandsOn state j c ⊎ ActGives act c) graph state j
    (λ frame is c on. cc) (λ ended r v frame is c on. cc) by where
      by : (x : Executes graph state j) (frame : Frame)
          → begun_frame (Execute (asked graph state j x)) ≡ Some frame → (c : ℕ)
          → frame.executor ≡ ActorOf c
          → StandsOn state j c ⊎ ActGives (Execute (asked graph state j x)) c
      by x frame is c on =
          let new = point_frame graph state (length x.job.frames) x.frame frame x.point is in
          elim (new.filled.on c on) [
            | inl callers ↦ inl (record {
              job = x.job;
              there = x.at;
              depth = length x.job.frames - 1;
              frame = x.frame;
              at = x.top;
              on = callers;
            })
            | inr names ↦ inr (frame_gives (Execute (asked graph state j x)) frame c is names)
          ]

pub executors_stand : (graph : Graph) (state : State) (j : ℕ) (act : Act)
    → act_of graph state j ≡ Some act → (i c : ℕ) → StandsOn (step_of graph state j) i c
    → StandsOn state i c ⊎ (IsStepped j act i × (StandsOn state j c ⊎ ActGives act c))
executors_stand graph state j act is i c n =
    by n.job (job_after graph state j act is i n.job n.there) n.at where
      of_frame : i ≡ j → (old : Job) → slice_get state.jobs j ≡ Some old
          → FrameAfter old act n.depth n.frame
          → StandsOn state i c ⊎ (IsStepped j act i × (StandsOn state j c ⊎ ActGives act c))
      of_frame here old was (turns before there t) = inl (record {
        job = old;
        there = ap (slice_get state.jobs) here ∙ was;
        depth = n.depth;
        frame = before;
        at = there;
        on = sym t.executor ∙ n.on;
      })
      of_frame here old was (entered pushed) =
          inr (inl here, begun_on graph state j act is n.frame pushed c n.on)

      by : (job : Job) → JobAfter state act j i job → slice_get job.frames n.depth ≡ Some n.frame
          → StandsOn state i c ⊎ (IsStepped j act i × (StandsOn state j c ⊎ ActGives act c))
      by job (stays was) at = inl (record {
        job = job;
        there = was;
        depth = n.depth;
        frame = n.frame;
        at = at;
        on = n.on;
      })
      by job (changes here old was same) at =
          of_frame here old was
          (frame_after act old n.depth n.frame
          (ap (λ (b : Job). slice_get b.frames n.depth) same ∙ at))
      by job (begins made new pushed same) at =
          inr (
            inr made,
            begun_on graph state j act is n.frame
                (pushed ∙ ap Some (first_frame_is new job n.depth n.frame same at)) c n.on,
          )
