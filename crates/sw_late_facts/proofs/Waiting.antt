-- A job that takes something to an actor waits to be dispatched there.
use Rattle.std.proofs.Common.{◌≡◌, ◌≢◌, ℕ, ◌<◌, arith, refl, ap, sym, ◌∙◌}
use Rattle.std.proofs.Common.{Bool, true, false, cond, ltb, Option, Some, None, List, [], ◌∷◌, ◌++◌}
use Rattle.std.proofs.Common.{slice_get}
use Rattle.std.specs.Prelude.{option_and_then, is_some}
use Rattle.std.proofs.lemmas.Bool.{ltb-true}
use Rattle.std.proofs.lemmas.Option.{cond_some}
use Rattle.sw_list.proofs.ListLemmas.{some_injective, slice_get_before}
use Rattle.sw_graph.specs.declared.graph.Graph.{Graph}
use Rattle.sw_value.specs.declared.executor.Executor.{Executor}
use Rattle.sw_value.specs.declared.executor.Executor.TheVariants as executor
use Rattle.sw_value.specs.declared.frame.Frame.{Frame}
use Rattle.sw_value.specs.declared.job.Job.{Job}
use Rattle.sw_value.specs.declared.job.Status.TheVariants.{Ready}
use Rattle.sw_value.specs.declared.state.State.{State}
use Rattle.sw_value.specs.declared.effect.Effect.{Effect}
use Rattle.sw_value.specs.declared.effect.Effect.TheVariants as effect
use Rattle.sw_value.specs.declared.effect.Act.{Act}
use Rattle.sw_value.specs.declared.effect.Act.TheVariants.{Dispatch, Wake, Execute}
use Rattle.sw_value.specs.Act.{act_of, act_by, dispatch_of}
use Rattle.sw_value.specs.Job.{top_frame, new_job}
use Rattle.sw_value.specs.Reach.{after_act, after_effect}
use Rattle.sw_value.specs.State.{in_job, add_job, add_cell, in_cell, set_global, halt, is_free}
use Rattle.sw_machine_access_facts.proofs.CellLemmas.{changed_other}
use Rattle.sw_color_rules.specs.declared.colors.Tint.{Tint}
use Rattle.sw_color_rules.specs.declared.colors.Colors.{Colors}
use Rattle.sw_color_rules.specs.Palette.{IsWhole}
use Rattle.sw_color_rules.specs.Tints.{owned_number, owned_by}
use Rattle.sw_color_rules.specs.Changes.{Change, Mark, after_changes}
use Rattle.sw_color_rules.specs.Plans.{number_on, next_color}
use Rattle.sw_late_facts.proofs.Seen.{Jobs, ltb_is}
use Rattle.sw_late_facts.proofs.Links.{seen_count}
use Rattle.sw_late_facts.proofs.Showing.{sight, sight_changes}
use Rattle.sw_late_facts.proofs.Cells.{cells_after, changes_cells}

-- ---- an actor's colour stays the actor's
pub owned_more : (cells : List Tint) (t : Tint) (c n : ℕ) → owned_number cells c ≡ Some n
    → owned_number (cells ++ t ∷ []) c ≡ Some n
unfolding owned_number
owned_more cells t c n e = by (slice_get cells c) refl e where
  by : (o : Option Tint) → slice_get cells c ≡ o → option_and_then owned_by o ≡ Some n
      → option_and_then owned_by (slice_get (cells ++ t ∷ []) c) ≡ Some n
  by None is h = cc
  by (Some u) is h = ap (option_and_then owned_by) (slice_get_before cells (t ∷ []) c u is) ∙ h

owned_stays : (cs : List Change) (cells : List Tint) (c n : ℕ) → owned_number cells c ≡ Some n
    → owned_number (cells_after cs cells) c ≡ Some n
owned_stays [] cells c n e = e
owned_stays (Mark t ∷ cs) cells c n e = owned_stays cs (cells ++ t ∷ []) c n (owned_more cells t c n e)
owned_stays (_ ∷ cs) cells c n e = owned_stays cs cells c n e

pub number_stays : (cs : List Change) (colors : Colors) → IsWhole colors.palette → (on : Executor) (a : ℕ)
    → number_on colors on ≡ Some a → number_on (after_changes cs colors) on ≡ Some a
number_stays cs colors whole executor.Generic a e = cc
number_stays cs colors whole (executor.ActorOf c) a e =
    ap (λ cells. owned_number cells c) (changes_cells cs colors) ∙ owned_stays cs colors.cells c a e
number_stays cs colors whole (executor.Global g) a e =
    let both = cond_some (ltb g (next_color colors)) g a e in
    let below : g < next_color (after_changes cs colors) =
    omega (
      arith,
      ltb-true g (next_color colors) both.0,
      seen_count cs (sight colors.palette),
      ap (λ (s : Jobs). s.count) (sight_changes cs colors whole),
    ) in
    ap (λ t. cond t (Some g) None) (ltb_is g (next_color (after_changes cs colors)) below)
    ∙ ap (λ n. Some n) both.1

-- ---- other jobs stay as they are
in_other : (g : Job → Job) (j k : ℕ) (state : State) (job : Job) → k ≢ j
    → slice_get state.jobs k ≡ Some job → slice_get (in_job g j state).jobs k ≡ Some job
unfolding in_job
in_other g j k state job apart e = changed_other g j k state.jobs apart ∙ e

pub others_stay : (j k : ℕ) (act : Act) (state : State) (job : Job) → k ≢ j
    → slice_get state.jobs k ≡ Some job → slice_get (after_act j act state).jobs k ≡ Some job
unfolding in_job add_job add_cell in_cell set_global halt
others_stay j k Dispatch state job apart e = changed_other _ j k state.jobs apart ∙ e
others_stay j k (Wake ended r v) state job apart e = changed_other _ j k state.jobs apart ∙ e
others_stay j k (Execute f) state job apart e = by f where
  by : (f : Effect) → slice_get (after_effect j f state).jobs k ≡ Some job
  by (effect.Set r v next) = changed_other _ j k state.jobs apart ∙ e
  by (effect.SetField r i v next) = changed_other _ j k state.jobs apart ∙ e
  by (effect.Print r line next) = changed_other _ j k state.jobs apart ∙ e
  by (effect.New r cell n next) = changed_other _ j k state.jobs apart ∙ e
  by (effect.Write c slot v next) = changed_other _ j k state.jobs apart ∙ e
  by (effect.WriteGlobal g v next) = changed_other _ j k state.jobs apart ∙ e
  by (effect.Goto next) = changed_other _ j k state.jobs apart ∙ e
  by (effect.Enter frame next) = changed_other _ j k state.jobs apart ∙ e
  by (effect.Wait on r next) = changed_other _ j k state.jobs apart ∙ e
  by (effect.Rest r next) = changed_other _ j k state.jobs apart ∙ e
  by (effect.Spawn r frame made cell next) =
      changed_other _ j k (state.jobs ++ new_job (frame ∷ []) ∷ []) apart
      ∙ slice_get_before state.jobs (new_job (frame ∷ []) ∷ []) k job e
  by (effect.Leave v) = changed_other _ j k state.jobs apart ∙ e
  by (effect.Halt kind at) = e
  by effect.Stuck = e

-- a job that is ready does nothing but be dispatched
pub ready_dispatches : (graph : Graph) (state : State) (j : ℕ) (job : Job) (act : Act)
    → slice_get state.jobs j ≡ Some job → job.status ≡ Ready → act_of graph state j ≡ Some act
    → act ≡ Dispatch
unfolding act_of
ready_dispatches graph state j job act there ready acts = halts (is_some state.halted) acts where
  free : (b : Bool) → cond b (Some Dispatch) None ≡ Some act → act ≡ Dispatch
  free true h = sym (some_injective h)
  free false h = cc

  top : (o : Option Frame) → option_and_then (dispatch_of state) o ≡ Some act → act ≡ Dispatch
  top None h = cc
  top (Some frame) h = free (is_free frame.executor state.jobs) h

  by : act_by graph state job job.status ≡ Some act → act ≡ Dispatch
  by h = top (top_frame job) (sym (ap (act_by graph state job) ready) ∙ h)

  halts : (b : Bool) → cond b None (option_and_then (λ job. act_by graph state job job.status)
      (slice_get state.jobs j)) ≡ Some act → act ≡ Dispatch
  halts true h = cc
  halts false h =
      by (sym (ap (option_and_then (λ job. act_by graph state job job.status)) there) ∙ h)
