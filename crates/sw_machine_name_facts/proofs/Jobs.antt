-- What a job was before a step: the same, the job that the act changes, or nothing where it begins.
use Rattle.std.proofs.Common.{◌≡◌, ℕ, ◌⊎◌, inl, inr, Option, Some, None, List, [], ◌∷◌, ◌++◌}
use Rattle.std.proofs.Common.{◌<◌, length, refl, ap, sym, ◌∙◌, append-nil}
use Rattle.std.specs.List.{slice_get}
use Rattle.std.proofs.lemmas.Option.{slice_get_within}
use Rattle.sw_list.proofs.ListLemmas.{some_injective, slice_get_before}
use Rattle.sw_graph.specs.declared.graph.Graph.{Graph}
use Rattle.sw_value.specs.declared.effect.Act.{Act}
use Rattle.sw_value.specs.declared.effect.Act.TheVariants.{Dispatch, Wake, Execute}
use Rattle.sw_value.specs.declared.effect.Effect.TheVariants as effect
use Rattle.sw_value.specs.declared.frame.Frame.{Frame}
use Rattle.sw_value.specs.declared.job.Job.{Job}
use Rattle.sw_value.specs.declared.state.State.{State}
use Rattle.sw_value.specs.declared.value.Value.TheVariants as value
use Rattle.sw_value.specs.Act.{act_of}
use Rattle.sw_value.specs.Frame.{finish_instr, go_on, set_field}
use Rattle.sw_value.specs.Job.{in_top, dispatch, wake, enter, wait, rest, leave, new_job}
use Rattle.sw_value.specs.Lists.{changed_by, changed_at}
use Rattle.sw_value.specs.Reach.{after_act, step_of}
use Rattle.sw_value.specs.State.{in_job, add_job, add_cell, in_cell, set_global, halt}
use Rattle.sw_value.specs.Transition.{made_by}
use Rattle.sw_value.proofs.ListLemmas.{set_back, changed_at_there}
use Rattle.sw_machine_kind_facts.proofs.ItemLemmas.{at_end, found_within}
use Rattle.sw_machine_name_facts.proofs.Acts.{acts, steps_by}
use Rattle.sw_machine_name_facts.proofs.Items.{of_changed}
use Rattle.sw_machine_name_facts.proofs.Numbers.{next_job}

-- what an act makes of its job
abbrev pub changed : Act → Job → Job
changed Dispatch = dispatch
changed (Wake ended r v) = wake r v
changed (Execute (effect.Set r v next)) = in_top (finish_instr r v next)
changed (Execute (effect.SetField r i v next)) = in_top (set_field r i v next)
changed (Execute (effect.Print r line next)) = in_top (finish_instr r value.Unit next)
changed (Execute (effect.New r h number next)) = in_top (finish_instr r (value.Cell number) next)
changed (Execute (effect.Write c slot v next)) = in_top (go_on next)
changed (Execute (effect.WriteGlobal g v next)) = in_top (go_on next)
changed (Execute (effect.Goto next)) = in_top (go_on next)
changed (Execute (effect.Enter frame next)) = enter frame next
changed (Execute (effect.Wait on r next)) = wait on r next
changed (Execute (effect.Rest r next)) = rest r next
changed (Execute (effect.Spawn r frame made c next)) = in_top (finish_instr r (value.Cell c) next)
changed (Execute (effect.Leave v)) = leave v
changed (Execute (effect.Halt kind at)) = λ job. job
changed (Execute effect.Stuck) = λ job. job

-- the frame that an act puts on top of its job, or with which a job begins
abbrev pub begun_frame : Act → Option Frame
begun_frame (Execute (effect.Enter frame next)) = Some frame
begun_frame (Execute (effect.Spawn r frame made c next)) = Some frame
begun_frame _ = None

-- the jobs that an act makes: one, or none
abbrev pub made_jobs : Act → List Job
made_jobs (Execute (effect.Spawn r frame made c next)) = new_job (frame ∷ []) ∷ []
made_jobs _ = []

-- a job after an act of job j
pub data JobAfter (state : State) (act : Act) (j i : ℕ) (job : Job) : Type 0 where
  stays : slice_get state.jobs i ≡ Some job → JobAfter state act j i job
  changes : i ≡ j → (old : Job) → slice_get state.jobs j ≡ Some old → changed act old ≡ job
      → JobAfter state act j i job
  begins : made_by act ≡ Some i → (frame : Frame) → begun_frame act ≡ Some frame
      → new_job (frame ∷ []) ≡ job → JobAfter state act j i job

unchanged : (j : ℕ) (jobs : List Job) → changed_at (λ job. job) j jobs ≡ jobs
unfolding changed_at
unchanged j jobs = by (slice_get jobs j) refl where
  by : (o : Option Job) → slice_get jobs j ≡ o → changed_at (λ job. job) j jobs ≡ jobs
  by None is = ap (λ o. changed_by o (λ job. job) j jobs) is
  by (Some job) is = changed_at_there (λ job. job) j jobs job is ∙ set_back jobs j job job is refl

pub jobs_of : (j : ℕ) (act : Act) (state : State)
    → (after_act j act state).jobs ≡ changed_at (changed act) j (state.jobs ++ made_jobs act)
unfolding in_job add_job add_cell in_cell set_global halt
jobs_of j (Execute (effect.Spawn r frame made c next)) state = refl
jobs_of j (Execute (effect.Halt kind at)) state =
    sym (unchanged j (state.jobs ++ []) ∙ append-nil state.jobs)
jobs_of j (Execute effect.Stuck) state =
    sym (unchanged j (state.jobs ++ []) ∙ append-nil state.jobs)
jobs_of j act state = ap (changed_at (changed act) j) (sym (append-nil state.jobs))

-- a job that was there, or one that is made
of_made : (state : State) (act : Act) (j i : ℕ) (job : Job)
    → ((m : ℕ) → made_by act ≡ Some m → m ≡ length state.jobs)
    → slice_get (state.jobs ++ made_jobs act) i ≡ Some job → JobAfter state act j i job
of_made state (Execute (effect.Spawn r frame made c next)) j i job next_is at =
    elim (at_end state.jobs (new_job (frame ∷ [])) job i at) [
      | inl was ↦ stays was
      | inr (here, is) ↦ begins (ap Some (next_is made refl ∙ sym here)) frame refl (sym is)
    ]
of_made state act j i job next_is at =
    stays (ap (λ l. slice_get l i) (sym (append-nil state.jobs)) ∙ at)

pub job_after : (graph : Graph) (state : State) (j : ℕ) (act : Act)
    → act_of graph state j ≡ Some act → (i : ℕ) (job : Job)
    → slice_get (step_of graph state j).jobs i ≡ Some job → JobAfter state act j i job
job_after graph state j act is i job at =
    elim (of_changed (changed act) j i (state.jobs ++ made_jobs act) job
    (ap (λ l. slice_get l i) (sym (ap (λ (s : State). s.jobs) (steps_by graph state j act is)
    ∙ jobs_of j act state)) ∙ at)) [
      | inl was ↦ of_made state act j i job (next_job graph state j act is) was
      | inr w ↦
          let a = acts graph state j act is in
          let same : a.job ≡ w.old =
          some_injective (sym (slice_get_before state.jobs (made_jobs act) j a.job a.there)
          ∙ ap (slice_get (state.jobs ++ made_jobs act)) (sym w.here) ∙ w.was) in
          changes w.here a.job a.there (ap (changed act) same ∙ w.is)
    ]

-- a job that is there after a step was there before, or is made
pub jobs_stay : (graph : Graph) (state : State) (j : ℕ) (act : Act)
    → act_of graph state j ≡ Some act → (i : ℕ) → i < length (step_of graph state j).jobs
    → (i < length state.jobs) ⊎ (made_by act ≡ Some i)
jobs_stay graph state j act is i inside =
    let found = found_within (step_of graph state j).jobs i inside in
    by found.0 (job_after graph state j act is i found.0 found.1) where
      by : (job : Job) → JobAfter state act j i job
          → (i < length state.jobs) ⊎ (made_by act ≡ Some i)
      by job (stays was) = inl (slice_get_within state.jobs i job was)
      by job (changes here old was same) =
          inl (slice_get_within state.jobs i old (ap (slice_get state.jobs) here ∙ was))
      by job (begins is frame pushed same) = inr is
