-- What a step changes of the targets of jobs, and that what it brings in is found.
use Rattle.std.proofs.Common.{◌≡◌, ℕ, zero, suc, ◌<◌, ◌≤◌, true, cond}
use Rattle.std.proofs.Common.{Option, Some, None, List, [], ◌∷◌, ◌++◌, length, map, refl, ap, sym}
use Rattle.std.proofs.Common.{subst, ◌∙◌, arith, length-append}
use Rattle.std.specs.Prelude.{option_and_then, ◌&&◌, ◌||◌}
use Rattle.std.specs.List.{slice_get, slice_set}
use Rattle.std.specs.Option.{option_map}
use Rattle.std.proofs.lemmas.Bool.{lt-ltb, le-ltb}
use Rattle.std.proofs.lemmas.List.{map-set, map_push, length-map, set_past}
use Rattle.std.proofs.lemmas.Option.{slice_get-map}
use Rattle.sw_graph.specs.declared.graph.Graph.{Graph}
use Rattle.sw_value.specs.declared.effect.Act.{Act}
use Rattle.sw_value.specs.declared.effect.Act.TheVariants.{Dispatch, Wake, Execute}
use Rattle.sw_value.specs.declared.effect.Effect.{Effect}
use Rattle.sw_value.specs.declared.effect.Effect.TheVariants as effect
use Rattle.sw_value.specs.declared.value.Value.TheVariants as value
use Rattle.sw_value.specs.declared.frame.Frame.{Frame}
use Rattle.sw_value.specs.declared.job.Job.{Job}
use Rattle.sw_value.specs.declared.race.Access.{Access}
use Rattle.sw_value.specs.declared.state.State.{State}
use Rattle.sw_value.specs.Access.{next_access}
use Rattle.sw_value.specs.Act.{act_of}
use Rattle.sw_value.specs.Frame.{finish_instr, go_on, set_field}
use Rattle.sw_value.specs.Job.{in_top, dispatch, wake, enter, wait, rest, leave, new_job}
use Rattle.sw_value.specs.Job.{is_running}
use Rattle.sw_value.specs.Lists.{changed_at}
use Rattle.sw_value.specs.Racing.{IsConflict, Racing}
use Rattle.sw_value.specs.Reach.{after_effect, step_of}
use Rattle.sw_value.specs.State.{in_job, add_job, add_cell, in_cell, set_global, halt}
use Rattle.sw_value.proofs.ListLemmas.{changed_at_there, changed_at_none, set_there, set_back}
use Rattle.sw_value.proofs.ListLemmas.{length-changed_at}
use Rattle.sw_value.proofs.ReachLemmas.{after_acts, step_by_act}
use Rattle.sw_race.specs.declared.target.Target.{Target}
use Rattle.sw_race.specs.Index.{are_clashing, IsClear, IsIndexOf, StandsBefore}
use Rattle.sw_race.specs.Index.{grown, kept_up}
use Rattle.sw_race.specs.Target.{job_target, target_at}
use Rattle.sw_race.specs.With.{is_same_place}
use Rattle.sw_race.proofs.TargetLemmas.{access_target}
use Rattle.sw_race.proofs.WithLemmas.{place_same}

-- How a step of job j changes the list of jobs: job j is changed in place, and there may be a job
-- more, which has not run yet.
pub data Changes (j : ℕ) (before : List Job) : List Job → Type 0 where
  nothing : Changes j before before
  in_place : (g : Job → Job) → Changes j before (changed_at g j before)
  with_new : (g : Job → Job) (frame : Frame)
      → Changes j before (changed_at g j (before ++ new_job (frame ∷ []) ∷ []))

effect_changes : (j : ℕ) (e : Effect) (state : State)
    → Changes j state.jobs (after_effect j e state).jobs
unfolding in_job add_job add_cell in_cell set_global halt
effect_changes j (effect.Set r v next) state = in_place (in_top (finish_instr r v next))
effect_changes j (effect.SetField r i v next) state = in_place (in_top (set_field r i v next))
effect_changes j (effect.Print r line next) state =
    in_place (in_top (finish_instr r value.Unit next))
effect_changes j (effect.New r c number next) state =
    in_place (in_top (finish_instr r (value.Cell number) next))
effect_changes j (effect.Write c slot v next) state = in_place (in_top (go_on next))
effect_changes j (effect.WriteGlobal g v next) state = in_place (in_top (go_on next))
effect_changes j (effect.Goto next) state = in_place (in_top (go_on next))
effect_changes j (effect.Enter frame next) state = in_place (enter frame next)
effect_changes j (effect.Wait on r next) state = in_place (wait on r next)
effect_changes j (effect.Rest r next) state = in_place (rest r next)
effect_changes j (effect.Spawn r frame job c next) state =
    with_new (in_top (finish_instr r (value.Cell c) next)) frame
effect_changes j (effect.Leave v) state = in_place (leave v)
effect_changes j (effect.Halt kind at) state = nothing
effect_changes j effect.Stuck state = nothing

act_changes : (j : ℕ) (act : Option Act) (state : State)
    → Changes j state.jobs (after_acts j act state).jobs
unfolding in_job
act_changes j None state = nothing
act_changes j (Some Dispatch) state = in_place dispatch
act_changes j (Some (Wake ended r v)) state = in_place (wake r v)
act_changes j (Some (Execute e)) state = effect_changes j e state

pub step_changes : (graph : Graph) (state : State) (j : ℕ)
    → Changes j state.jobs (step_of graph state j).jobs
step_changes graph state j =
    subst (λ s. Changes j state.jobs s.jobs) (sym (step_by_act graph state j))
    (act_changes j (act_of graph state j) state)

-- past the end
past_end : (jobs : List Job) (j : ℕ) → slice_get jobs j ≡ None → length jobs ≤ j
past_end [] j e = omega arith
past_end (job ∷ jobs) zero e = cc
past_end (job ∷ jobs) (suc j) e = let rest = past_end jobs j e in omega (arith, rest)

-- where jobs have their targets, so does one at its place
same_target : (f : Job → Option Target) (j : ℕ) (jobs : List Job)
    → slice_set (map f jobs) j (option_and_then f (slice_get jobs j)) ≡ map f jobs
same_target f j jobs = by (slice_get jobs j) refl where
  by : (o : Option Job) → slice_get jobs j ≡ o
      → slice_set (map f jobs) j (option_and_then f o) ≡ map f jobs
  by (Some job) e =
      set_back (map f jobs) j (f job) (f job) (slice_get-map f jobs j ∙ ap (option_map f) e) refl
  by None e =
      let past = past_end jobs j e in
      set_past (map f jobs) j None (omega (arith, past, length-map jobs f))

-- the target of the job that is changed, put at its place
set_target : (f : Job → Option Target) (g : Job → Job) (j : ℕ) (jobs : List Job)
    → slice_set (map f jobs) j (option_and_then f (slice_get (changed_at g j jobs) j))
    ≡ map f (changed_at g j jobs)
set_target f g j jobs = by (slice_get jobs j) refl where
  by : (o : Option Job) → slice_get jobs j ≡ o
      → slice_set (map f jobs) j (option_and_then f (slice_get (changed_at g j jobs) j))
      ≡ map f (changed_at g j jobs)
  by (Some job) e =
      let there = changed_at_there g j jobs job e in
      ap (λ o. slice_set (map f jobs) j (option_and_then f o))
      (ap (λ l. slice_get l j) there ∙ set_there jobs j job (g job) e)
      ∙ sym (map-set f jobs j (g job)) ∙ ap (map f) (sym there)
  by None e =
      let same = changed_at_none g j jobs e in
      ap (λ l. slice_set (map f jobs) j (option_and_then f (slice_get l j))) same
      ∙ same_target f j jobs ∙ ap (map f) (sym same)

pub new_has_none : (graph : Graph) (frame : Frame) → job_target graph (new_job (frame ∷ [])) ≡ None
unfolding new_job is_running
new_has_none graph frame = refl

grown_same : (n : ℕ) (targets : List (Option Target)) → n ≤ length targets
    → grown n targets ≡ targets
grown_same n targets few =
    ap (λ b. cond b (targets ++ None ∷ []) targets) (le-ltb (length targets) n few)

grown_more : (n : ℕ) (targets : List (Option Target)) → length targets < n
    → grown n targets ≡ targets ++ None ∷ []
grown_more n targets more =
    ap (λ b. cond b (targets ++ None ∷ []) targets) (lt-ltb (length targets) n more)

-- an index that has kept up
changes_kept : (graph : Graph) (j : ℕ) (before after : List Job) → Changes j before after
    → kept_up (length after) j (option_and_then (job_target graph) (slice_get after j))
    (map (job_target graph) before) ≡ map (job_target graph) after
changes_kept graph j before _ nothing =
    let f = job_target graph in
    ap (λ l. slice_set l j (option_and_then f (slice_get before j)))
    (grown_same (length before) (map f before) (omega (arith, length-map before f)))
    ∙ same_target f j before
changes_kept graph j before _ (in_place g) =
    let f = job_target graph in
    let after = changed_at g j before in
    ap (λ l. slice_set l j (option_and_then f (slice_get after j)))
    (grown_same (length after) (map f before)
    (omega (arith, length-map before f, length-changed_at g j before)))
    ∙ set_target f g j before
changes_kept graph j before _ (with_new g frame) =
    let f = job_target graph in
    let more = before ++ new_job (frame ∷ []) ∷ [] in
    let after = changed_at g j more in
    let all : map f more ≡ map f before ++ None ∷ [] =
    map_push f before (new_job (frame ∷ []))
    ∙ ap (λ o. map f before ++ o ∷ []) (new_has_none graph frame) in
    ap (λ l. slice_set l j (option_and_then f (slice_get after j)))
    (grown_more (length after) (map f before)
    (omega (
      arith,
      length-map before f,
      length-changed_at g j more,
      length-append before (new_job (frame ∷ []) ∷ []),
    )) ∙ sym all)
    ∙ set_target f g j more

-- The index stands for the state after the item, once it has kept up.
pub stands_after : (graph : Graph) (index : List (Option Target)) (state : State) (j : ℕ)
    (next : Option Target) (after : List (Option Target)) → StandsBefore graph index state j
    → next ≡ target_at graph state j → after ≡ kept_up (length state.jobs) j next index
    → IsIndexOf graph state after
stands_after graph index state j next after was is kept =
    let jobs = ap (λ (s : State). s.jobs) was.steps in
    kept ∙ ap (λ n. kept_up (length state.jobs) j n index) is
    ∙ ap (kept_up (length state.jobs) j (target_at graph state j)) was.stands
    ∙ changes_kept graph j was.before.jobs state.jobs
    (subst (Changes j was.before.jobs) (sym jobs) (step_changes graph was.before j))

-- an item makes at most one job
pub few_before : (graph : Graph) (index : List (Option Target)) (state : State) (j : ℕ)
    → StandsBefore graph index state j → length index ≤ length state.jobs
few_before graph index state j was =
    let jobs = ap (λ (s : State). length s.jobs) was.steps in
    let stands = ap length was.stands in
    let more = grows (step_changes graph was.before j) in
    omega (arith, jobs, stands, more, length-map was.before.jobs (job_target graph)) where
      grows : {before after : List Job} → Changes j before after → length before ≤ length after
      grows nothing = omega arith
      grows {before} (in_place g) = omega (arith, length-changed_at g j before)
      grows {before} (with_new g frame) =
          omega (
            arith,
            length-changed_at g j (before ++ new_job (frame ∷ []) ∷ []),
            length-append before (new_job (frame ∷ []) ∷ []),
          )

-- the target of an access, as the index has it
indexed : (graph : Graph) (state : State) (targets : List (Option Target))
    → IsIndexOf graph state targets → (k : ℕ) (a : Access) → next_access graph state k ≡ Some a
    → slice_get targets k ≡ Some (Some (record { place = a.place; writes = a.writes }))
indexed graph state targets stands k a next =
    ap (λ l. slice_get l k) stands ∙ slice_get-map (job_target graph) state.jobs k
    ∙ by (slice_get state.jobs k) (access_target graph state k a next) where
      by : {t : Target} → (o : Option Job) → option_and_then (job_target graph) o ≡ Some t
          → option_map (job_target graph) o ≡ Some (Some t)
      by None e = cc
      by (Some job) e = ap Some e

clash : (a b : Access) → IsConflict a b
    → are_clashing (record { place = a.place; writes = a.writes })
    (record { place = b.place; writes = b.writes }) ≡ true
clash a b c =
    ap (λ s. s && (a.writes || b.writes))
    (ap (is_same_place a.place) (sym c.same) ∙ place_same a.place) ∙ c.writes

-- where no two targets clash there is no race
pub clear_no_race : (graph : Graph) (state : State) (targets : List (Option Target))
    → IsIndexOf graph state targets → IsClear targets → Racing graph state → ⊥
clear_no_race graph state targets stands clear (race, one) =
    let same = clear.one race.first.job race.second.job _ _
    (indexed graph state targets stands race.first.job race.first one.first_next)
    (indexed graph state targets stands race.second.job race.second one.second_next)
    (clash race.first race.second one.conflict) in
    omega (arith, same, one.order)
