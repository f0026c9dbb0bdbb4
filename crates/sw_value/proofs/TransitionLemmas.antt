-- A transition says what its step changes.
use Rattle.std.proofs.Common.{◌≡◌, ℕ, ◌+◌, ◌-◌, ◌<◌, eqb, Bool, true, false, ◌||◌, cond, Option}
use Rattle.std.proofs.Common.{Some, None, List, [], ◌∷◌, ◌++◌, length, take, get_or, refl, ap, sym}
use Rattle.std.proofs.Common.{subst, ◌∙◌, arith, length-append}
use Rattle.std.specs.Prelude.{option_and_then, is_some}
use Rattle.std.specs.Option.{option_map, option_map_or}
use Rattle.std.specs.List.{slice_get}
use Rattle.std.proofs.lemmas.Bool.Decides.{nat_tests}
use Rattle.std.proofs.lemmas.List.{length-take-le}
use Rattle.std.proofs.lemmas.Option.{slice_get_within, slice_get-get_or}
use Rattle.sw_list.proofs.ListLemmas.{some_injective, slice_get_before}
use Rattle.sw_graph.specs.declared.graph.Graph.{Graph}
use Rattle.sw_value.specs.declared.executor.Executor.{Executor}
use Rattle.sw_value.specs.declared.value.Value.{Value}
use Rattle.sw_value.specs.declared.value.Value.TheVariants as value
use Rattle.sw_value.specs.declared.cell.HeapCell.TheVariants as cell
use Rattle.sw_value.specs.declared.frame.Frame.{Frame}
use Rattle.sw_value.specs.declared.job.Job.{Job}
use Rattle.sw_value.specs.declared.job.Status.{Status}
use Rattle.sw_value.specs.declared.job.Status.TheVariants.{Ready, Running, Waiting, Ended}
use Rattle.sw_value.specs.declared.state.State.{State}
use Rattle.sw_value.specs.declared.state.TrapKind.{TrapKind}
use Rattle.sw_value.specs.declared.effect.Effect.{Effect}
use Rattle.sw_value.specs.declared.effect.Effect.TheVariants as effect
use Rattle.sw_value.specs.declared.effect.Act.{Act}
use Rattle.sw_value.specs.declared.effect.Act.TheVariants.{Dispatch, Wake, Execute}
use Rattle.sw_value.specs.Frame.{finish_instr, go_on, set_field, take_result}
use Rattle.sw_value.specs.Job.{top_frame, is_running_status, is_running, in_top, dispatch, wake}
use Rattle.sw_value.specs.Job.{enter, wait, rest}
use Rattle.sw_value.specs.Job.{return_to, return_from, leave, new_job, ended_with, waits_for}
use Rattle.sw_value.specs.State.{in_job, add_job, add_cell, in_cell, set_global, halt, is_free}
use Rattle.sw_value.specs.State.{result_of}
use Rattle.sw_value.specs.Lists.{changed_at}
use Rattle.sw_value.specs.Effect.{effect_of}
use Rattle.sw_value.specs.Act.{execution_of, dispatch_of, act_by, act_of}
use Rattle.sw_value.specs.Transition.{Transition, is_last_frame, entered_by, left_by, made_by}
use Rattle.sw_value.specs.Transition.{followed_by, ends_by, transition_by, transition_of}
use Rattle.sw_value.specs.Transition.{executor_of_top, executor_in, runs_at, awaited_by, gained}
use Rattle.sw_value.specs.Transition.{Describes}
use Rattle.sw_value.specs.Reach.{after_act, step_of}
use Rattle.sw_value.proofs.ListLemmas.{length-changed_at, changed_at_found}
use Rattle.sw_value.proofs.ListLemmas.{slice_get_end}
use Rattle.sw_value.proofs.ReachLemmas.{after_acts, step_by_act}
use Rattle.sw_value.proofs.StaysInBounds.{HasRoom, effect_has_room}

abbrev executor_of_frame : Frame → Executor
executor_of_frame frame = frame.executor

-- the job that one state has more than another, by number
abbrev one_more : State → State → Option ℕ
one_more state after = cond (eqb (length after.jobs) (length state.jobs)) None
    (Some (length state.jobs))

none_more : (state after : State) → length after.jobs ≡ length state.jobs
    → one_more state after ≡ None
none_more state after same =
    let test : eqb (length after.jobs) (length state.jobs) ≡ true =
    grind (arith, nat_tests, same) in
    ap (λ b. cond b None (Some (length state.jobs))) test

some_more : (state after : State) → length state.jobs < length after.jobs
    → one_more state after ≡ Some (length state.jobs)
some_more state after more =
    let test : eqb (length after.jobs) (length state.jobs) ≡ false =
    grind (arith, nat_tests, more) in
    ap (λ b. cond b None (Some (length state.jobs))) test

idle : (job : Job) → is_running_status job.status ≡ false → executor_in job ≡ None
unfolding is_running
idle job e = ap (λ b. cond b (option_map executor_of_frame (top_frame job)) None) e

busy : (job : Job) (frame : Frame) → is_running_status job.status ≡ true
    → top_frame job ≡ Some frame → executor_in job ≡ Some frame.executor
unfolding is_running
busy job frame e top = ap (λ b. cond b (option_map executor_of_frame (top_frame job)) None) e
    ∙ ap (option_map executor_of_frame) top

-- what an act of a job changes
record Changes (state after : State) (j : ℕ) (act : Act) (job later : Job) : Type 0 where
  here : slice_get after.jobs j ≡ Some later
  enters : entered_by act job ≡ gained (executor_in job) (executor_in later)
  leaves : left_by act job ≡ gained (executor_in later) (executor_in job)
  makes : made_by act ≡ one_more state after
  follows : followed_by act ≡ waits_for job.status
  ends : ends_by act job ≡ is_some (ended_with later.status)

describes_of : (graph : Graph) (state after : State) (j : ℕ) (act : Act) (job later : Job)
    → slice_get state.jobs j ≡ Some job → Changes state after j act job later
    → Describes graph state after j (transition_by graph state j act)
unfolding runs_at awaited_by result_of
describes_of graph state after j act job later there c =
    let was : runs_at state j ≡ executor_in job = ap (option_and_then executor_in) there in
    let is : runs_at after j ≡ executor_in later = ap (option_and_then executor_in) c.here in
    record {
      job = refl;
      enters = ap (option_and_then (entered_by act)) there ∙ c.enters
          ∙ sym (ap (λ o. gained o (runs_at after j)) was ∙ ap (gained (executor_in job)) is);
      leaves = ap (option_and_then (left_by act)) there ∙ c.leaves
          ∙ sym (ap (λ o. gained o (runs_at state j)) is ∙ ap (gained (executor_in later)) was);
      makes = c.makes;
      follows = c.follows ∙ sym (ap (option_and_then (λ job. waits_for job.status)) there);
      ends = ap (λ o. option_map_or (ends_by act) o false) there ∙ c.ends
          ∙ sym (ap (λ o. is_some (option_and_then (λ job. ended_with job.status) o)) c.here);
      accesses = refl;
    }

-- the executor of a job before and after: it has none, it keeps one, or it gets or loses one
neither : (x y : Option Executor) → x ≡ None → y ≡ None → None ≡ gained x y
neither x y e f = sym (ap (λ o. gained o y) e ∙ f)

kept : (x y : Option Executor) (a : Executor) → x ≡ Some a → None ≡ gained x y
kept x y a e = sym (ap (λ o. gained o y) e)

got : (x y : Option Executor) (a : Executor) → x ≡ None → y ≡ Some a → Some a ≡ gained x y
got x y a e f = sym (ap (λ o. gained o y) e ∙ f)

-- a job that is ready is dispatched
running_top : (job : Job) → top_frame (dispatch job) ≡ top_frame job
unfolding dispatch top_frame
running_top job = refl

dispatch_changes : (state : State) (j : ℕ) (job : Job) (frame : Frame)
    → slice_get state.jobs j ≡ Some job → job.status ≡ Ready → top_frame job ≡ Some frame
    → Changes state (in_job dispatch j state) j Dispatch job (dispatch job)
unfolding in_job dispatch
dispatch_changes state j job frame there ready top =
    let was = idle job (ap is_running_status ready) in
    let is = busy (dispatch job) frame refl (running_top job ∙ top) in
    record {
      here = changed_at_found dispatch j state.jobs job there;
      enters = ap (option_map executor_of_frame) top
          ∙ got (executor_in job) (executor_in (dispatch job)) frame.executor was is;
      leaves = kept (executor_in (dispatch job)) (executor_in job) frame.executor is;
      makes = sym (none_more state (in_job dispatch j state)
          (length-changed_at dispatch j state.jobs));
      follows = sym (ap waits_for ready);
      ends = refl;
    }

-- a job that waits gets its result
wake_changes : (state : State) (j : ℕ) (job : Job) (on r : ℕ) (v : Value)
    → slice_get state.jobs j ≡ Some job → job.status ≡ Waiting on r
    → Changes state (in_job (wake r v) j state) j (Wake on r v) job (wake r v job)
unfolding in_job wake
wake_changes state j job on r v there waits =
    let was = idle job (ap is_running_status waits) in
    let is = idle (wake r v job) refl in
    record {
      here = changed_at_found (wake r v) j state.jobs job there;
      enters = neither (executor_in job) (executor_in (wake r v job)) was is;
      leaves = neither (executor_in (wake r v job)) (executor_in job) is was;
      makes = sym (none_more state (in_job (wake r v) j state)
          (length-changed_at (wake r v) j state.jobs));
      follows = sym (ap waits_for waits);
      ends = refl;
    }

-- The state before and after an instruction of a job that runs, whose top frame is `frame`.
record Executes (state after : State) (j : ℕ) (e : Effect) (job : Job)
    (frame : Frame) (later : Job) : Type 0 where
  there : slice_get state.jobs j ≡ Some job
  runs : job.status ≡ Running
  top : top_frame job ≡ Some frame
  here : slice_get after.jobs j ≡ Some later
  makes : made_by (Execute e) ≡ one_more state after

-- the job goes on running
goes_on : (state after : State) (j : ℕ) (e : Effect) (job : Job) (frame : Frame) (later : Job)
    (above : Frame) → Executes state after j e job frame later → later.status ≡ job.status
    → top_frame later ≡ Some above → left_by (Execute e) job ≡ None
    → ends_by (Execute e) job ≡ false → Changes state after j (Execute e) job later
goes_on state after j e job frame later above x same top no_leave no_end =
    let was = busy job frame (ap is_running_status x.runs) x.top in
    let is = busy later above (ap is_running_status (same ∙ x.runs)) top in
    record {
      here = x.here;
      enters = kept (executor_in job) (executor_in later) frame.executor was;
      leaves = no_leave ∙ kept (executor_in later) (executor_in job) above.executor is;
      makes = x.makes;
      follows = sym (ap waits_for x.runs);
      ends = no_end ∙ sym (ap (λ s. is_some (ended_with s)) (same ∙ x.runs));
    }

-- the job gives its executor up, and has not ended
gives_up : (state after : State) (j : ℕ) (e : Effect) (job : Job) (frame : Frame) (later : Job)
    (status : Status) → Executes state after j e job frame later → later.status ≡ status
    → is_running_status status ≡ false → is_some (ended_with status) ≡ false
    → left_by (Execute e) job ≡ executor_of_top job → ends_by (Execute e) job ≡ false
    → Changes state after j (Execute e) job later
gives_up state after j e job frame later status x now stops unended leaves no_end =
    let was = busy job frame (ap is_running_status x.runs) x.top in
    let is = idle later (ap is_running_status now ∙ stops) in
    record {
      here = x.here;
      enters = kept (executor_in job) (executor_in later) frame.executor was;
      leaves = leaves ∙ ap (option_map executor_of_frame) x.top
          ∙ got (executor_in later) (executor_in job) frame.executor is was;
      makes = x.makes;
      follows = sym (ap waits_for x.runs);
      ends = no_end ∙ sym (ap (λ s. is_some (ended_with s)) now ∙ unended);
    }

-- the top frame is changed, and goes on
top_after : (job : Job) (frame : Frame) (g : Frame → Frame) → top_frame job ≡ Some frame
    → top_frame (in_top g job) ≡ Some (g frame)
unfolding top_frame in_top
top_after job frame g top =
    let place = length job.frames - 1 in
    ap (λ n. slice_get (changed_at g place job.frames) (n - 1))
    (length-changed_at g place job.frames)
    ∙ changed_at_found g place job.frames frame top

status_after : (job : Job) (g : Frame → Frame) → (in_top g job).status ≡ job.status
unfolding in_top
status_after job g = refl

-- a state whose jobs are those before, with one changed
job_executes : (state after : State) (j : ℕ) (e : Effect) (job : Job) (frame : Frame)
    (g : Job → Job) → slice_get state.jobs j ≡ Some job → job.status ≡ Running
    → top_frame job ≡ Some frame → after.jobs ≡ changed_at g j state.jobs
    → made_by (Execute e) ≡ None → Executes state after j e job frame (g job)
job_executes state after j e job frame g there runs top changed no_job = record {
  there = there;
  runs = runs;
  top = top;
  here = ap (λ l. slice_get l j) changed ∙ changed_at_found g j state.jobs job there;
  makes = no_job ∙ sym (none_more state after (ap length changed
      ∙ length-changed_at g j state.jobs));
}

instr_changes : (state after : State) (j : ℕ) (e : Effect) (job : Job) (frame : Frame)
    (g : Frame → Frame) → slice_get state.jobs j ≡ Some job → job.status ≡ Running
    → top_frame job ≡ Some frame → after.jobs ≡ changed_at (in_top g) j state.jobs
    → made_by (Execute e) ≡ None → left_by (Execute e) job ≡ None
    → ends_by (Execute e) job ≡ false → Changes state after j (Execute e) job (in_top g job)
instr_changes state after j e job frame g there runs top changed no_job no_leave no_end =
    goes_on state after j e job frame (in_top g job) (g frame)
    (job_executes state after j e job frame (in_top g) there runs top changed no_job)
    (status_after job g) (top_after job frame g top) no_leave no_end

task_changes : (state : State) (j : ℕ) (job : Job) (frame first : Frame) (r made c next : ℕ)
    → slice_get state.jobs j ≡ Some job → job.status ≡ Running → top_frame job ≡ Some frame
    → made ≡ length state.jobs
    → Changes state (in_job (in_top (finish_instr r (value.Cell c) next)) j
    (add_cell (cell.TaskOf made) (add_job (new_job (first ∷ [])) state))) j
    (Execute (effect.Spawn r first made c next)) job
    (in_top (finish_instr r (value.Cell c) next) job)
unfolding in_job add_cell add_job
task_changes state j job frame first r made c next there runs top number =
    let g = finish_instr r (value.Cell c) next in
    let after =
    in_job (in_top g) j (add_cell (cell.TaskOf made) (add_job (new_job (first ∷ [])) state)) in
    let more = state.jobs ++ new_job (first ∷ []) ∷ [] in
    goes_on state after j
    (effect.Spawn r first made c next) job frame (in_top g job) (g frame)
    (record {
      there = there;
      runs = runs;
      top = top;
      here = changed_at_found (in_top g) j more job
          (slice_get_before state.jobs (new_job (first ∷ []) ∷ []) j job there);
      makes = ap Some number ∙ sym
          (some_more state after
          (omega (
            arith,
            length-changed_at (in_top g) j more,
            length-append state.jobs (new_job (first ∷ []) ∷ []),
          )));
    }) (status_after job g) (top_after job frame g top) refl refl

-- a frame is pushed
entered_top : (frame : Frame) (next : ℕ) (job : Job) → top_frame (enter frame next job) ≡ Some frame
unfolding top_frame enter
entered_top frame next job =
    let below = changed_at (go_on next) (length job.frames - 1) job.frames in
    let place : length (below ++ frame ∷ []) - 1 ≡ length below =
    omega (arith, length-append below (frame ∷ [])) in
    ap (slice_get (below ++ frame ∷ [])) place ∙ slice_get_end below frame

entered_status : (frame : Frame) (next : ℕ) (job : Job)
    → (enter frame next job).status ≡ cond frame.crossing Ready job.status
unfolding enter
entered_status frame next job = refl

call_changes : (state : State) (j : ℕ) (job : Job) (frame above : Frame) (next : ℕ)
    → slice_get state.jobs j ≡ Some job → job.status ≡ Running → top_frame job ≡ Some frame
    → Changes state (in_job (enter above next) j state) j (Execute (effect.Enter above next)) job
    (enter above next job)
unfolding in_job
call_changes state j job frame above next there runs top = by above.crossing refl where
  by : (b : Bool) → above.crossing ≡ b → Changes state (in_job (enter above next) j state) j
      (Execute (effect.Enter above next)) job (enter above next job)
  by true crosses =
      gives_up state (in_job (enter above next) j state) j
      (effect.Enter above next) job frame (enter above next job) Ready
      (job_executes state (in_job (enter above next) j state) j
      (effect.Enter above next) job frame (enter above next) there runs top refl refl)
      (entered_status above next job ∙ ap (λ b. cond b Ready job.status) crosses) refl refl
      (ap (λ b. cond b (executor_of_top job) None) crosses) refl
  by false stays =
      goes_on state (in_job (enter above next) j state) j
      (effect.Enter above next) job frame (enter above next job) above
      (job_executes state (in_job (enter above next) j state) j
      (effect.Enter above next) job frame (enter above next) there runs top refl refl)
      (entered_status above next job ∙ ap (λ b. cond b Ready job.status) stays)
      (entered_top above next job) (ap (λ b. cond b (executor_of_top job) None) stays) refl

-- a job waits, or rests
wait_changes : (state : State) (j : ℕ) (job : Job) (frame : Frame) (on r next : ℕ)
    → slice_get state.jobs j ≡ Some job → job.status ≡ Running → top_frame job ≡ Some frame
    → Changes state (in_job (wait on r next) j state) j (Execute (effect.Wait on r next)) job
    (wait on r next job)
unfolding in_job wait
wait_changes state j job frame on r next there runs top =
    gives_up state (in_job (wait on r next) j state) j
    (effect.Wait on r next) job frame (wait on r next job) (Waiting on r)
    (job_executes state (in_job (wait on r next) j state) j
    (effect.Wait on r next) job frame (wait on r next) there runs top refl refl) refl refl refl
    refl refl

rest_changes : (state : State) (j : ℕ) (job : Job) (frame : Frame) (r next : ℕ)
    → slice_get state.jobs j ≡ Some job → job.status ≡ Running → top_frame job ≡ Some frame
    → Changes state (in_job (rest r next) j state) j (Execute (effect.Rest r next)) job
    (rest r next job)
unfolding in_job rest
rest_changes state j job frame r next there runs top =
    gives_up state (in_job (rest r next) j state) j
    (effect.Rest r next) job frame (rest r next job) Ready
    (job_executes state (in_job (rest r next) j state) j
    (effect.Rest r next) job frame (rest r next) there runs top refl refl) refl refl refl refl refl

halt_changes : (state : State) (j : ℕ) (job : Job) (frame : Frame) (kind : TrapKind) (at : ℕ)
    → slice_get state.jobs j ≡ Some job → job.status ≡ Running → top_frame job ≡ Some frame
    → Changes state (halt kind at state) j (Execute (effect.Halt kind at)) job job
unfolding halt
halt_changes state j job frame kind at there runs top =
    let was = busy job frame (ap is_running_status runs) top in
    record {
      here = there;
      enters = kept (executor_in job) (executor_in job) frame.executor was;
      leaves = kept (executor_in job) (executor_in job) frame.executor was;
      makes = sym (none_more state (halt kind at state) refl);
      follows = sym (ap waits_for runs);
      ends = sym (ap (λ s. is_some (ended_with s)) runs);
    }

-- a frame returns
or_true : (b : Bool) → b || true ≡ true
or_true true = refl
or_true false = refl

or_false : (b : Bool) → b || false ≡ b
or_false true = refl
or_false false = refl

left_there : (job : Job) (frame : Frame) (v : Value) (b : Bool) → top_frame job ≡ Some frame
    → frame.crossing || is_last_frame job ≡ b
    → left_by (Execute (effect.Leave v)) job ≡ cond b (Some frame.executor) None
left_there job frame v b top e =
    ap (option_and_then (λ frame. cond (frame.crossing || is_last_frame job)
    (Some frame.executor) None)) top
    ∙ ap (λ c. cond c (Some frame.executor) None) e

returned : (job : Job) (frame : Frame) (v : Value) → top_frame job ≡ Some frame
    → leave v job ≡ return_to (take (length job.frames - 1) job.frames) frame v job.status
unfolding leave
returned job frame v top = ap (λ o. return_from o v job) top

length-below : (job : Job) (frame : Frame) → top_frame job ≡ Some frame
    → length (take (length job.frames - 1) job.frames) + 1 ≡ length job.frames
unfolding top_frame
length-below job frame top =
    let inside = slice_get_within job.frames (length job.frames - 1) frame top in
    omega (arith, inside, length-take-le (length job.frames - 1) job.frames (omega arith))

below_top : (f : Frame) (fs : List Frame) (g : Frame → Frame) (status : Status) → (x : Frame)
    × (top_frame (record { frames = changed_at g (length fs) (f ∷ fs); status = status }) ≡ Some x)
unfolding top_frame
below_top f fs g status =
    let x = get_or (f ∷ fs) (length fs) f in
    let here = slice_get-get_or (f ∷ fs) (length fs) f (omega arith) in
    let place : length (changed_at g (length fs) (f ∷ fs)) - 1 ≡ length fs =
    omega (arith, length-changed_at g (length fs) (f ∷ fs)) in (
      g x,
      ap (slice_get (changed_at g (length fs) (f ∷ fs))) place
          ∙ changed_at_found g (length fs) (f ∷ fs) x here,
    )

return_changes : (state : State) (j : ℕ) (job : Job) (frame : Frame) (v : Value)
    → slice_get state.jobs j ≡ Some job → job.status ≡ Running → top_frame job ≡ Some frame
    → Changes state (in_job (leave v) j state) j (Execute (effect.Leave v)) job (leave v job)
unfolding in_job
return_changes state j job frame v there runs top =
    subst (Changes state (in_job (leave v) j state) j (Execute (effect.Leave v)) job)
    (sym (returned job frame v top)) (by (take (length job.frames - 1) job.frames) refl) where
      after : State
      after = in_job (leave v) j state

      was : executor_in job ≡ Some frame.executor
      was = busy job frame (ap is_running_status runs) top

      found : (below : List Frame) → take (length job.frames - 1) job.frames ≡ below
          → slice_get after.jobs j ≡ Some (return_to below frame v job.status)
      found below e = changed_at_found (leave v) j state.jobs job there
          ∙ ap Some (returned job frame v top ∙ ap (λ l. return_to l frame v job.status) e)

      same : None ≡ one_more state after
      same = sym (none_more state after (length-changed_at (leave v) j state.jobs))

      by_crossing : (f : Frame) (fs : List Frame) → take (length job.frames - 1) job.frames ≡ f ∷ fs
          → is_last_frame job ≡ false → (b : Bool) → frame.crossing ≡ b
          → Changes state after j (Execute (effect.Leave v)) job
          (return_to (f ∷ fs) frame v job.status)
      by_crossing f fs e more true crosses =
          let later = return_to (f ∷ fs) frame v job.status in
          let is = idle later (ap (λ b. is_running_status (cond b Ready job.status)) crosses) in
          record {
            here = found (f ∷ fs) e;
            enters = kept (executor_in job) (executor_in later) frame.executor was;
            leaves = left_there job frame v true top (ap (λ b. b || is_last_frame job) crosses)
                ∙ got (executor_in later) (executor_in job) frame.executor is was;
            makes = same;
            follows = sym (ap waits_for runs);
            ends = more ∙ sym (ap (λ b. is_some (ended_with (cond b Ready job.status))) crosses);
          }
      by_crossing f fs e more false stays =
          let later = return_to (f ∷ fs) frame v job.status in
          let below = below_top f fs (take_result frame.result v)
          (cond frame.crossing Ready job.status) in
          let is = busy later below.0 (ap (λ b. is_running_status (cond b Ready job.status)) stays
          ∙ ap is_running_status runs) below.1 in
          record {
            here = found (f ∷ fs) e;
            enters = kept (executor_in job) (executor_in later) frame.executor was;
            leaves = left_there job frame v false top (ap (λ b. b || is_last_frame job) stays
                ∙ more) ∙ kept (executor_in later) (executor_in job) below.0.executor is;
            makes = same;
            follows = sym (ap waits_for runs);
            ends = more ∙ sym (ap (λ b. is_some (ended_with (cond b Ready job.status))) stays
                ∙ ap (λ s. is_some (ended_with s)) runs);
          }

      by : (below : List Frame) → take (length job.frames - 1) job.frames ≡ below
          → Changes state after j (Execute (effect.Leave v)) job
          (return_to below frame v job.status)
      by [] e =
          let last : is_last_frame job ≡ true =
          grind (arith, nat_tests, length-below job frame top, ap length e) in
          let later = return_to [] frame v job.status in
          let is = idle later refl in
          record {
            here = found [] e;
            enters = kept (executor_in job) (executor_in later) frame.executor was;
            leaves = left_there job frame v true top (ap (λ b. frame.crossing || b) last
                ∙ or_true frame.crossing)
                ∙ got (executor_in later) (executor_in job) frame.executor is was;
            makes = same;
            follows = sym (ap waits_for runs);
            ends = last;
          }
      by (f ∷ fs) e =
          let more : is_last_frame job ≡ false =
          grind (arith, nat_tests, length-below job frame top, ap length e) in
          by_crossing f fs e more frame.crossing refl

described : (graph : Graph) (state : State) (j : ℕ) → Act → Type 0
described graph state j act =
    Describes graph state (after_act j act state) j (transition_by graph state j act)

effect_described : (graph : Graph) (state : State) (j : ℕ) (job : Job) (frame : Frame)
    → slice_get state.jobs j ≡ Some job → job.status ≡ Running → top_frame job ≡ Some frame
    → (e : Effect) → HasRoom state e → (act : Act) → execution_of e ≡ Some act
    → described graph state j act
unfolding described HasRoom in_job add_cell in_cell set_global
effect_described graph state j job frame there runs top e room act h = by e room h where
  by : (e : Effect) → HasRoom state e → execution_of e ≡ Some act → described graph state j act
  by effect.Stuck _ h = cc
  by (effect.Set r v next) _ h =
      subst (described graph state j) (some_injective h)
      (describes_of graph state _ j (Execute (effect.Set r v next)) job _ there
      (instr_changes state _ j
      (effect.Set r v next) job frame (finish_instr r v next) there runs top refl refl refl refl))
  by (effect.SetField r i v next) _ h =
      subst (described graph state j) (some_injective h)
      (describes_of graph state _ j (Execute (effect.SetField r i v next)) job _ there
      (instr_changes state _ j
      (effect.SetField r i v next) job frame (set_field r i v next) there runs top refl refl refl
      refl))
  by (effect.Print r line next) _ h =
      subst (described graph state j) (some_injective h)
      (describes_of graph state _ j (Execute (effect.Print r line next)) job _ there
      (instr_changes state _ j
      (effect.Print r line next) job frame (finish_instr r value.Unit next) there runs top refl
      refl refl refl))
  by (effect.New r c number next) _ h =
      subst (described graph state j) (some_injective h)
      (describes_of graph state _ j (Execute (effect.New r c number next)) job _ there
      (instr_changes state _ j
      (effect.New r c number next) job frame
      (finish_instr r (value.Cell number) next) there runs top refl refl refl refl))
  by (effect.Write c slot v next) _ h =
      subst (described graph state j) (some_injective h)
      (describes_of graph state _ j (Execute (effect.Write c slot v next)) job _ there
      (instr_changes state _ j
      (effect.Write c slot v next) job frame (go_on next) there runs top refl refl refl refl))
  by (effect.WriteGlobal g v next) _ h =
      subst (described graph state j) (some_injective h)
      (describes_of graph state _ j (Execute (effect.WriteGlobal g v next)) job _ there
      (instr_changes state _ j
      (effect.WriteGlobal g v next) job frame (go_on next) there runs top refl refl refl refl))
  by (effect.Goto next) _ h =
      subst (described graph state j) (some_injective h)
      (describes_of graph state _ j (Execute (effect.Goto next)) job _ there
      (instr_changes state _ j
      (effect.Goto next) job frame (go_on next) there runs top refl refl refl refl))
  by (effect.Enter above next) _ h =
      subst (described graph state j) (some_injective h)
      (describes_of graph state _ j (Execute (effect.Enter above next)) job _ there
      (call_changes state j job frame above next there runs top))
  by (effect.Spawn r first made c next) room h =
      subst (described graph state j) (some_injective h)
      (describes_of graph state _ j (Execute (effect.Spawn r first made c next)) job _ there
      (task_changes state j job frame first r made c next there runs top room.1))
  by (effect.Wait on r next) _ h =
      subst (described graph state j) (some_injective h)
      (describes_of graph state _ j (Execute (effect.Wait on r next)) job _ there
      (wait_changes state j job frame on r next there runs top))
  by (effect.Rest r next) _ h =
      subst (described graph state j) (some_injective h)
      (describes_of graph state _ j (Execute (effect.Rest r next)) job _ there
      (rest_changes state j job frame r next there runs top))
  by (effect.Leave v) _ h =
      subst (described graph state j) (some_injective h)
      (describes_of graph state _ j (Execute (effect.Leave v)) job _ there
      (return_changes state j job frame v there runs top))
  by (effect.Halt kind at) _ h =
      subst (described graph state j) (some_injective h)
      (describes_of graph state _ j (Execute (effect.Halt kind at)) job _ there
      (halt_changes state j job frame kind at there runs top))

status_described : (graph : Graph) (state : State) (j : ℕ) (job : Job)
    → slice_get state.jobs j ≡ Some job → (act : Act) (status : Status) → job.status ≡ status
    → act_by graph state job status ≡ Some act → described graph state j act
unfolding described
status_described graph state j job there act Ready ready h = by (top_frame job) refl h where
  by_free : (frame : Frame) → top_frame job ≡ Some frame → (b : Bool)
      → cond b (Some Dispatch) None ≡ Some act → described graph state j act
  by_free frame top true h =
      subst (described graph state j) (some_injective h)
      (describes_of graph state _ j Dispatch job _ there
      (dispatch_changes state j job frame there ready top))
  by_free frame top false h = cc

  by : (o : Option Frame) → top_frame job ≡ o → option_and_then (dispatch_of state) o ≡ Some act
      → described graph state j act
  by None _ h = cc
  by (Some frame) top h = by_free frame top (is_free frame.executor state.jobs) h
status_described graph state j job there act (Waiting on r) waits h =
    by (result_of state on) h where
      by : (o : Option Value) → option_map (Wake on r) o ≡ Some act → described graph state j act
      by None h = cc
      by (Some v) h =
          subst (described graph state j) (some_injective h)
          (describes_of graph state _ j (Wake on r v) job _ there
          (wake_changes state j job on r v there waits))
status_described graph state j job there act Running runs h = by (top_frame job) refl h where
  by : (o : Option Frame) → top_frame job ≡ o
      → option_and_then (λ frame. execution_of (effect_of graph state (length job.frames) frame)) o
      ≡ Some act → described graph state j act
  by None _ h = cc
  by (Some frame) top h = effect_described graph state j job frame there runs top
      (effect_of graph state (length job.frames) frame)
      (effect_has_room graph state (length job.frames) frame) act h
status_described graph state j job there act (Ended v) _ h = cc

act_described : (graph : Graph) (state : State) (j : ℕ) (act : Act)
    → act_of graph state j ≡ Some act → described graph state j act
unfolding act_of
act_described graph state j act h = by_halt (is_some state.halted) h where
  by_job : (o : Option Job) → slice_get state.jobs j ≡ o
      → option_and_then (λ job. act_by graph state job job.status) o ≡ Some act
      → described graph state j act
  by_job None _ h = cc
  by_job (Some job) there h = status_described graph state j job there act job.status refl h

  by_halt : (b : Bool) → cond b None
      (option_and_then (λ job. act_by graph state job job.status) (slice_get state.jobs j)) ≡ Some
      act → described graph state j act
  by_halt true h = cc
  by_halt false h = by_job (slice_get state.jobs j) refl h

pub transition_describes : (graph : Graph) (state : State) (item : ℕ) (o : Transition)
    → transition_of graph state item ≡ Some o
    → Describes graph state (step_of graph state item) item o
unfolding transition_of described
transition_describes graph state item o h = by (act_of graph state item) refl h where
  by : (a : Option Act) → act_of graph state item ≡ a
      → option_map (transition_by graph state item) a ≡ Some o
      → Describes graph state (step_of graph state item) item o
  by None _ h = cc
  by (Some act) e h =
      let steps : step_of graph state item ≡ after_act item act state = step_by_act graph state item
      ∙ ap (λ a. after_acts item a state) e in
      subst (λ s. Describes graph state s item o) (sym steps)
      (subst (λ x. Describes graph state (after_act item act state) item x) (some_injective h)
      (act_described graph state item act e))
