-- What an item makes its job do, by cases, and what it leads to.
use Rattle.std.proofs.Common.{◌≡◌, ℕ, Bool, true, false, cond, Option, Some, None, refl, ap, ◌∙◌}
use Rattle.std.proofs.Common.{subst}
use Rattle.std.specs.Prelude.{option_and_then, is_some}
use Rattle.std.specs.List.{slice_get}
use Rattle.sw_list.proofs.ListLemmas.{some_injective}
use Rattle.sw_graph.specs.declared.graph.Graph.{Graph}
use Rattle.sw_value.specs.declared.effect.Act.{Act}
use Rattle.sw_value.specs.declared.effect.Act.TheVariants.{Dispatch, Wake, Execute}
use Rattle.sw_value.specs.declared.effect.Effect.{Effect}
use Rattle.sw_value.specs.declared.effect.Effect.TheVariants as effect
use Rattle.sw_value.specs.declared.job.Job.{Job}
use Rattle.sw_value.specs.declared.state.State.{State}
use Rattle.sw_value.specs.declared.value.Value.{Value}
use Rattle.sw_value.specs.Act.{execution_of, act_by, act_of}
use Rattle.sw_value.specs.Reach.{after_act, step_of}
use Rattle.sw_value.proofs.ReachLemmas.{after_acts, step_by_act}
use Rattle.sw_machine_let_facts.proofs.ActLemmas.{Executes, asked, Does, idle, dispatches, wakes, executes}
use Rattle.sw_machine_let_facts.proofs.ActLemmas.{does}

-- the step of an item that makes its job do something
pub steps_by : (graph : Graph) (state : State) (j : ℕ) (act : Act)
    → act_of graph state j ≡ Some act → step_of graph state j ≡ after_act j act state
steps_by graph state j act is =
    step_by_act graph state j ∙ ap (λ o. after_acts j o state) is

executed : (e : Effect) (act : Act) → execution_of e ≡ Some act → Execute e ≡ act
executed effect.Stuck act is = cc
executed e act is = some_injective is

-- What holds if a job begins to run or goes on, and if it executes what stands at its point, holds
-- of whatever an item makes it do.
pub by_act : (P : Act → Type 0) (graph : Graph) (state : State) (j : ℕ) → P Dispatch
    → ((ended r : ℕ) (v : Value) → P (Wake ended r v))
    → ((x : Executes graph state j) → P (Execute (asked graph state j x))) → (act : Act)
    → act_of graph state j ≡ Some act → P act
by_act P graph state j begins goes_on runs act =
    by (act_of graph state j) (does graph state j) where
      by : (o : Option Act) → Does graph state j o → o ≡ Some act → P act
      by _ idle is = cc
      by _ dispatches is = subst P (some_injective is) begins
      by _ (wakes ended r v) is = subst P (some_injective is) (goes_on ended r v)
      by _ (executes x) is = subst P (executed (asked graph state j x) act is) (runs x)

-- there is such a job, and the machine isn't halted
pub record Acts (graph : Graph) (state : State) (j : ℕ) (act : Act) : Type 0 where
  pub goes_on : is_some state.halted ≡ false
  pub job : Job
  pub there : slice_get state.jobs j ≡ Some job
  pub does : act_by graph state job job.status ≡ Some act

pub acts : (graph : Graph) (state : State) (j : ℕ) (act : Act)
    → act_of graph state j ≡ Some act → Acts graph state j act
unfolding act_of
acts graph state j act = by (is_some state.halted) refl where
  by_job : is_some state.halted ≡ false → (o : Option Job) → slice_get state.jobs j ≡ o
      → option_and_then (λ job. act_by graph state job job.status) o ≡ Some act
      → Acts graph state j act
  by_job goes_on None there is = cc
  by_job goes_on (Some job) there is =
      record { goes_on = goes_on; job = job; there = there; does = is }

  by : (b : Bool) → is_some state.halted ≡ b
      → cond b None
      (option_and_then (λ job. act_by graph state job job.status) (slice_get state.jobs j))
      ≡ Some act → Acts graph state j act
  by true halted is = cc
  by false goes_on is = by_job goes_on (slice_get state.jobs j) refl is
