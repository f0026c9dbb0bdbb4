-- How many jobs there are after an item. An act makes one job at most, and takes none away.
use Rattle.std.proofs.Common.{◌≡◌, ℕ, ◌+◌, ◌<◌, ◌≤◌, eqb, Bool, true, false, cond}
use Rattle.std.proofs.Common.{Option, Some, None, List, [], ◌∷◌, ◌++◌, length, refl, sym, subst, ap}
use Rattle.std.proofs.Common.{◌∙◌, arith, length-append}
use Rattle.std.specs.Prelude.{is_some, option_and_then}
use Rattle.std.specs.Option.{option_map}
use Rattle.std.specs.List.{fold, slice_get}
use Rattle.std.proofs.lemmas.List.Sums.{fold-append}
use Rattle.std.proofs.lemmas.Option.{slice_get_within}
use Rattle.sw_graph.specs.declared.graph.Graph.{Graph}
use Rattle.sw_list.proofs.ListLemmas.{some_injective}
use Rattle.sw_value.specs.declared.effect.Effect.{Effect}
use Rattle.sw_value.specs.declared.effect.Effect.TheVariants as effect
use Rattle.sw_value.specs.declared.effect.Act.{Act}
use Rattle.sw_value.specs.declared.effect.Act.TheVariants.{Dispatch, Wake, Execute}
use Rattle.sw_value.specs.declared.job.Job.{Job}
use Rattle.sw_value.specs.declared.state.State.{State}
use Rattle.sw_value.specs.declared.value.Value.TheVariants as value
use Rattle.sw_value.specs.Act.{act_by, act_of}
use Rattle.sw_value.specs.Frame.{finish_instr, go_on, set_field}
use Rattle.sw_value.specs.Job.{in_top, dispatch, wake, enter, wait, rest, leave, new_job}
use Rattle.sw_value.specs.Reach.{after_effect, after_act, step_of, reach}
use Rattle.sw_value.specs.State.{in_job, add_job, add_cell, in_cell, set_global, halt}
use Rattle.sw_value.specs.Start.{start_of}
use Rattle.sw_value.specs.Transition.{made_by, transition_by, transition_of}
use Rattle.sw_value.proofs.ListLemmas.{length-changed_at}
use Rattle.sw_value.proofs.ReachLemmas.{after_acts, step_by_act}
use Rattle.sw_value.proofs.TransitionLemmas.{transition_describes}

-- how many jobs an act makes
abbrev pub count_made : Option ℕ → ℕ
count_made None = 0
count_made (Some made) = 1

effect_jobs : (j : ℕ) (e : Effect) (state : State)
    → length (after_effect j e state).jobs ≡ length state.jobs + count_made (made_by (Execute e))
unfolding in_job add_job add_cell in_cell set_global halt
effect_jobs j (effect.Set r v next) state =
    omega (arith, length-changed_at (in_top (finish_instr r v next)) j state.jobs)
effect_jobs j (effect.SetField r i v next) state =
    omega (arith, length-changed_at (in_top (set_field r i v next)) j state.jobs)
effect_jobs j (effect.Print r line next) state =
    omega (arith, length-changed_at (in_top (finish_instr r value.Unit next)) j state.jobs)
effect_jobs j (effect.New r cell number next) state =
    omega (arith, length-changed_at (in_top (finish_instr r (value.Cell number) next)) j state.jobs)
effect_jobs j (effect.Write c slot v next) state =
    omega (arith, length-changed_at (in_top (go_on next)) j state.jobs)
effect_jobs j (effect.WriteGlobal g v next) state =
    omega (arith, length-changed_at (in_top (go_on next)) j state.jobs)
effect_jobs j (effect.Goto next) state =
    omega (arith, length-changed_at (in_top (go_on next)) j state.jobs)
effect_jobs j (effect.Enter frame next) state =
    omega (arith, length-changed_at (enter frame next) j state.jobs)
effect_jobs j (effect.Wait on r next) state =
    omega (arith, length-changed_at (wait on r next) j state.jobs)
effect_jobs j (effect.Rest r next) state =
    omega (arith, length-changed_at (rest r next) j state.jobs)
effect_jobs j (effect.Leave v) state = omega (arith, length-changed_at (leave v) j state.jobs)
effect_jobs j (effect.Halt kind at) state = omega arith
effect_jobs j effect.Stuck state = omega arith
effect_jobs j (effect.Spawn r frame made cell next) state =
    omega (
      arith,
      length-changed_at (in_top (finish_instr r (value.Cell cell) next)) j
          (state.jobs ++ new_job (frame ∷ []) ∷ []),
      length-append state.jobs (new_job (frame ∷ []) ∷ []),
    )

act_jobs : (j : ℕ) (act : Act) (state : State)
    → length (after_act j act state).jobs ≡ length state.jobs + count_made (made_by act)
unfolding in_job
act_jobs j Dispatch state = omega (arith, length-changed_at dispatch j state.jobs)
act_jobs j (Wake on r v) state = omega (arith, length-changed_at (wake r v) j state.jobs)
act_jobs j (Execute e) state = effect_jobs j e state

module _ (graph : Graph) (state : State) (j : ℕ) where
  module _ (act : Act) (acts : act_of graph state j ≡ Some act) where
    pub transition_is : transition_of graph state j ≡ Some (transition_by graph state j act)
    unfolding transition_of
    transition_is = ap (option_map (transition_by graph state j)) acts

    pub jobs_by_act : length (step_of graph state j).jobs ≡ length state.jobs + count_made (made_by act)
    jobs_by_act =
        ap (λ (s : State). length s.jobs) (step_by_act graph state j ∙ ap (λ o. after_acts j o state) acts)
        ∙ act_jobs j act state

    -- the job that is made has the next number
    pub made_is_next : (made : ℕ) → made_by act ≡ Some made → made ≡ length state.jobs
    made_is_next made is = by
        (eqb (length (step_of graph state j).jobs) (length state.jobs))
        ((transition_describes graph state j (transition_by graph state j act) transition_is).makes)
      where
        by : (same : Bool) → made_by act ≡ cond same None (Some (length state.jobs))
            → made ≡ length state.jobs
        by true makes = cc (is, makes)
        by false makes = some_injective (sym is ∙ makes)

    -- an item that does something names a job
    pub acts_within : j < length state.jobs
    unfolding act_of
    acts_within = halted (is_some state.halted) acts
      where
        found : (o : Option Job) → slice_get state.jobs j ≡ o
            → option_and_then (λ job. act_by graph state job job.status) o ≡ Some act
            → j < length state.jobs
        found None there is = cc
        found (Some job) there is = slice_get_within state.jobs j job there

        halted : (b : Bool) → cond b None (option_and_then
            (λ job. act_by graph state job job.status) (slice_get state.jobs j)) ≡ Some act
            → j < length state.jobs
        halted true is = cc
        halted false is = found (slice_get state.jobs j) refl is

  pub transition_none : act_of graph state j ≡ None → transition_of graph state j ≡ None
  unfolding transition_of
  transition_none none = ap (option_map (transition_by graph state j)) none

  pub step_none : act_of graph state j ≡ None → step_of graph state j ≡ state
  step_none none = step_by_act graph state j ∙ ap (λ o. after_acts j o state) none

  pub jobs_stay : length state.jobs ≤ length (step_of graph state j).jobs
  jobs_stay = by (act_of graph state j) refl
    where
      by : (o : Option Act) → act_of graph state j ≡ o
          → length state.jobs ≤ length (step_of graph state j).jobs
      by None none = omega (arith, ap (λ (s : State). length s.jobs) (step_none none))
      by (Some act) acts = omega (arith, jobs_by_act act acts)

-- more items leave no fewer jobs
pub jobs_grow : (graph : Graph) (items more : List ℕ)
    → length (reach graph items).jobs ≤ length (reach graph (items ++ more)).jobs
unfolding reach
jobs_grow graph items more = subst (λ (s : State). length (reach graph items).jobs ≤ length s.jobs)
    (sym (fold-append (step_of graph) (start_of graph) items more))
    (from (fold (step_of graph) (start_of graph) items) more)
  where
    from : (state : State) (later : List ℕ)
        → length state.jobs ≤ length (fold (step_of graph) state later).jobs
    from state [] = omega arith
    from state (item ∷ later) =
        omega (arith, jobs_stay graph state item, from (step_of graph state item) later)
