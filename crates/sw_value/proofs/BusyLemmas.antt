-- Lemmas on the executors that are taken.
use Rattle.std.proofs.Common.{◌≡◌, ℕ, ◌+◌, ◌-◌, ◌<◌, ◌≤◌, zero, suc, Bool, true, false, cond, not}
use Rattle.std.proofs.Common.{Option, Some, None, List, [], ◌∷◌, ◌++◌, length, take, get_or}
use Rattle.std.proofs.Common.{count_by, eqb, refl, ap, sym, subst, ◌∙◌, arith, length-append}
use Rattle.std.proofs.lemmas.List.{length-set, length-take-le}
use Rattle.std.specs.Prelude.{◌&&◌, ◌||◌, nat_lt, option_and_then}
use Rattle.std.specs.List.{slice_get, slice_set, list_any}
use Rattle.std.specs.Option.{option_map, option_map_or, IfSome}
use Rattle.std.proofs.lemmas.List.Sums.{sum_by-cons, sum_by_push}
use Rattle.std.proofs.lemmas.Bool.Decides.{nat_tests}
use Rattle.std.proofs.lemmas.Option.{slice_get-get_or}
use Rattle.sw_list.proofs.ListLemmas.{some_injective}
use Rattle.sw_value.specs.declared.executor.Executor.{Executor}
use Rattle.sw_value.specs.declared.executor.Executor.TheVariants.{Generic, ActorOf, Global}
use Rattle.sw_value.specs.declared.frame.Frame.{Frame}
use Rattle.sw_value.specs.declared.job.Job.{Job}
use Rattle.sw_value.specs.declared.job.Status.{Status}
use Rattle.sw_value.specs.declared.job.Status.TheVariants.{Ready}
use Rattle.sw_value.specs.declared.value.Value.{Value}
use Rattle.sw_value.specs.Executor.{is_same}
use Rattle.sw_value.specs.declared.frame.TheConstants.{NO_REGISTER}
use Rattle.sw_value.specs.Frame.{set_register, finish_instr, set_field, go_on, take_result}
use Rattle.sw_value.specs.Lists.{changed_at}
use Rattle.sw_value.proofs.ListLemmas.{changed_at_found, changed_at_none}
use Rattle.sw_value.proofs.ListLemmas.{length-changed_at, slice_get_end, set_there, take_next}
use Rattle.sw_value.proofs.ListLemmas.{get_before}
use Rattle.sw_value.specs.Job.{top_frame, is_running_status, is_running, runs_on, in_top, new_job}
use Rattle.sw_value.specs.Job.{dispatch, wake, enter, wait, rest, leave, return_from}
use Rattle.sw_value.proofs.JobLemmas.{leave_none, leave_some, return_to_there}
use Rattle.sw_value.specs.Busy.{exclusive, is_exclusive, held, times, time, IsReplaced, IsBusy}

-- one for a test that is passed
abbrev one : Bool → ℕ
one b = cond b 1 0

-- an item that is put at an index
pub count_set : {A : Type 0} (P : A → Bool) (xs : List A) (i : ℕ) (x y : A)
    → slice_get xs i ≡ Some x → count_by P (slice_set xs i y) + one (P x) ≡ count_by P xs
    + one (P y)
count_set P [] i x y e = cc
count_set P (z ∷ zs) zero x y e =
    let same : P z ≡ P x = cc in
    let o = ap one same in
    omega (
      arith,
      sum_by-cons (λ w. cond (P w) 1 0) y zs,
      sum_by-cons (λ w. cond (P w) 1 0) z zs,
      o,
    )
count_set P (z ∷ zs) (suc i) x y e =
    let rest = count_set P zs i x y e in
    omega (
      arith,
      sum_by-cons (λ w. cond (P w) 1 0) z (slice_set zs i y),
      sum_by-cons (λ w. cond (P w) 1 0) z zs,
      rest,
    )

pub count_push : {A : Type 0} (P : A → Bool) (xs : List A) (x : A)
    → count_by P (xs ++ x ∷ []) ≡ count_by P xs + one (P x)
count_push P xs x = sum_by_push (λ w. cond (P w) 1 0) xs x

-- an item that passes is counted
pub count_at : {A : Type 0} (P : A → Bool) (xs : List A) (i : ℕ) (x : A)
    → slice_get xs i ≡ Some x → one (P x) ≤ count_by P xs
count_at P [] i x e = cc
count_at P (z ∷ zs) zero x e =
    let same : P z ≡ P x = cc in
    let o = ap one same in
    omega (arith, sum_by-cons (λ w. cond (P w) 1 0) z zs, o)
count_at P (z ∷ zs) (suc i) x e =
    let rest = count_at P zs i x e in
    omega (arith, sum_by-cons (λ w. cond (P w) 1 0) z zs, rest)

-- some item passes where the count is not zero
any_counted : {A : Type 0} (P : A → Bool) (xs : List A)
    → list_any P xs ≡ nat_lt 0 (count_by P xs)
any_counted P [] = refl
any_counted P (z ∷ zs) = by (P z) refl (any_counted P zs) where
  by : (b : Bool) → P z ≡ b → list_any P zs ≡ nat_lt 0 (count_by P zs)
      → (b || list_any P zs) ≡ nat_lt 0 (count_by P (z ∷ zs))
  by true e rest =
      let o = ap one e in
      grind (arith, nat_tests, sum_by-cons (λ w. cond (P w) 1 0) z zs, o)
  by false e rest =
      let o = ap one e in
      let same : count_by P (z ∷ zs) ≡ count_by P zs =
      omega (arith, sum_by-cons (λ w. cond (P w) 1 0) z zs, o) in
      rest ∙ ap (nat_lt 0) (sym same)

pub any_by_count : {A B : Type 0} (P : A → Bool) (Q : B → Bool) (xs : List A) (ys : List B)
    → count_by P xs ≡ count_by Q ys → list_any P xs ≡ list_any Q ys
any_by_count P Q xs ys e = any_counted P xs ∙ ap (nat_lt 0) e ∙ sym (any_counted Q ys)

-- an executor is free where it is not among those that are taken
pub free_by_busy : (busy : List Executor) (jobs : List Job) (e : Executor) → IsBusy busy jobs
    → is_exclusive e ≡ true → list_any (λ b. is_same b e) busy ≡ list_any (runs_on e) jobs
free_by_busy busy jobs e agrees h =
    any_by_count (λ b. is_same b e) (runs_on e) busy jobs (agrees.each e h)

-- what a job holds is what it runs on
held_runs : (job : Job) (e : Executor) → is_exclusive e ≡ true
    → time e (held job) ≡ one (runs_on e job)
unfolding held runs_on is_running
held_runs job e h = by job.status where
  by_frame : (x : Executor) → time e (exclusive x) ≡ one (is_same x e)
  by_frame Generic = by_other e h where
    by_other : (e : Executor) → is_exclusive e ≡ true → 0 ≡ one (is_same Generic e)
    by_other Generic h = cc
    by_other (ActorOf a) h = refl
    by_other (Global g) h = refl
  by_frame (ActorOf a) = refl
  by_frame (Global g) = refl

  by_top : (o : Option Frame) → time e (option_and_then (λ frame. exclusive frame.executor) o)
      ≡ one (option_map_or (λ frame. is_same frame.executor e) o false)
  by_top None = refl
  by_top (Some frame) = by_frame frame.executor

  by_running : (b : Bool)
      → time e (cond b (option_and_then (λ frame. exclusive frame.executor) (top_frame job)) None)
      ≡ one (b && option_map_or (λ frame. is_same frame.executor e) (top_frame job) false)
  by_running true = by_top (top_frame job)
  by_running false = refl

  by : (s : Status)
      → time e
      (cond (is_running_status s)
      (option_and_then (λ frame. exclusive frame.executor) (top_frame job)) None)
      ≡ one (is_running_status s && option_map_or (λ frame. is_same frame.executor e)
      (top_frame job) false)
  by s = by_running (is_running_status s)

-- a job changes, and with it what it holds
pub busy_replaced : (before after : List Executor) (jobs : List Job) (j : ℕ) (job later : Job)
    → IsBusy before jobs → slice_get jobs j ≡ Some job
    → IsReplaced (held job) (held later) before after → IsBusy after (slice_set jobs j later)
busy_replaced before after jobs j job later agrees there replaced = record {
  each = λ e h.
      let was = agrees.each e h in
      let moved = replaced.each e in
      let counts = count_set (runs_on e) jobs j job later there in
      let old = held_runs job e h in
      let new = held_runs later e h in
      omega (arith, was, moved, counts, old, new);
}

-- a job changes, and holds what it held
pub busy_stays : (busy : List Executor) (jobs : List Job) (j : ℕ) (job later : Job)
    → IsBusy busy jobs → slice_get jobs j ≡ Some job → held later ≡ held job
    → IsBusy busy (slice_set jobs j later)
busy_stays busy jobs j job later agrees there same =
    busy_replaced busy busy jobs j job later agrees there
    (record { each = λ e. ap (λ o. times e busy + time e o) (sym same) })

-- a job is added, and with it what it holds
pub busy_added : (before after : List Executor) (jobs : List Job) (job : Job)
    → IsBusy before jobs → IsReplaced None (held job) before after
    → IsBusy after (jobs ++ job ∷ [])
busy_added before after jobs job agrees replaced = record {
  each = λ e h.
      let was = agrees.each e h in
      let moved = replaced.each e in
      let new = held_runs job e h in
      omega (arith, was, moved, new, count_push (runs_on e) jobs job);
}

pub busy_next : (before after : List Executor) (jobs : List Job) (i : ℕ) (job : Job)
    (o : Option Executor) → i < length jobs → job ≡ get_or jobs i job
    → IsBusy before (take i jobs) → o ≡ held job → IsReplaced None o before after
    → IsBusy after (take (i + 1) jobs)
busy_next before after jobs i job o inside here agrees holds replaced =
    let there : slice_get jobs i ≡ Some job =
    slice_get-get_or jobs i job inside ∙ ap Some (sym here) in
    subst (IsBusy after) (sym (take_next jobs i job there))
    (busy_added before after (take i jobs) job agrees
    (subst (λ p. IsReplaced None p before after) holds replaced))

-- an executor is taken out by its place, which the last one takes
pub removed_within : (old earlier : List Executor) (last b : Executor) (i : ℕ)
    → old ≡ earlier ++ last ∷ [] → i < length earlier → slice_get old i ≡ Some b
    → IsReplaced (Some b) None old (slice_set earlier i last)
removed_within old earlier last b i e inside there = record {
  each = λ x.
      let here = get_before earlier i b last (ap (λ l. slice_get l i) (sym e) ∙ there) inside in
      let moved = count_set (λ y. is_same y x) earlier i b last here in
      let all = ap (times x) e ∙ count_push (λ y. is_same y x) earlier last in
      omega (arith, moved, all);
}

pub removed_last : (old earlier : List Executor) (last b : Executor) (i : ℕ)
    → old ≡ earlier ++ last ∷ [] → length earlier ≤ i → i < length old → slice_get old i ≡ Some b
    → IsReplaced (Some b) None old earlier
removed_last old earlier last b i e past inside there = record {
  each = λ x.
      let count = ap length e ∙ length-append earlier (last ∷ []) in
      let place : i ≡ length earlier = omega (arith, count) in
      let end = ap (slice_get old) (sym place) ∙ there in
      let same : last ≡ b =
      some_injective
      (sym (slice_get_end earlier last) ∙ ap (λ l. slice_get l (length earlier)) (sym e)
      ∙ end) in
      let all = ap (times x) e ∙ count_push (λ y. is_same y x) earlier last in
      let one_of = ap (λ y. time x (Some y)) same in
      omega (arith, all, one_of);
}

-- an executor that is the same as one among others is that one
pub same_executors : (a b : Executor) → is_same a b ≡ true → a ≡ b
same_executors Generic Generic e = refl
same_executors Generic (ActorOf b) e = cc
same_executors Generic (Global b) e = cc
same_executors (ActorOf a) Generic e = cc
same_executors (ActorOf a) (ActorOf b) e =
    let same : a ≡ b = grind (arith, nat_tests) in ap ActorOf same
same_executors (ActorOf a) (Global b) e = cc
same_executors (Global a) Generic e = cc
same_executors (Global a) (ActorOf b) e = cc
same_executors (Global a) (Global b) e =
    let same : a ≡ b = grind (arith, nat_tests) in ap Global same

-- a job is added that holds nothing
pub busy_more : (busy : List Executor) (jobs : List Job) (job : Job) → IsBusy busy jobs
    → held job ≡ None → IsBusy busy (jobs ++ job ∷ [])
busy_more busy jobs job agrees none = record {
  each = λ e h.
      let was = agrees.each e h in
      let new = held_runs job e h in
      let zero_times = ap (time e) none in
      omega (arith, was, new, zero_times, count_push (runs_on e) jobs job);
}

-- what a job holds is an executor of its own
exclusive_only : (x e : Executor) → exclusive x ≡ Some e → is_exclusive e ≡ true
exclusive_only Generic e h = cc
exclusive_only (ActorOf a) e h = ap is_exclusive (sym (some_injective h))
exclusive_only (Global g) e h = ap is_exclusive (sym (some_injective h))

held_exclusive : (job : Job) (e : Executor) → held job ≡ Some e → is_exclusive e ≡ true
unfolding held
held_exclusive job e = by (is_running job) where
  by_top : (o : Option Frame)
      → option_and_then (λ frame. exclusive frame.executor) o ≡ Some e → is_exclusive e ≡ true
  by_top None h = cc
  by_top (Some frame) h = exclusive_only frame.executor e h

  by : (b : Bool)
      → cond b (option_and_then (λ frame. exclusive frame.executor) (top_frame job)) None ≡ Some e
      → is_exclusive e ≡ true
  by true h = by_top (top_frame job) h
  by false h = cc

same_itself : (e : Executor) → is_same e e ≡ true
same_itself Generic = refl
same_itself (ActorOf a) = grind (arith, nat_tests)
same_itself (Global g) = grind (arith, nat_tests)

-- what a job holds is among those that are taken
pub held_is_busy : (busy : List Executor) (jobs : List Job) (j : ℕ) (job : Job) (e : Executor)
    → IsBusy busy jobs → slice_get jobs j ≡ Some job → held job ≡ Some e → 0 < times e busy
held_is_busy busy jobs j job e agrees there holds =
    let h = held_exclusive job e holds in
    let all = agrees.each e h in
    let runs = held_runs job e h in
    let counted = count_at (runs_on e) jobs j job there in
    let itself = ap (time e) holds in
    let same = ap one (same_itself e) in
    omega (arith, all, runs, counted, itself, same)

pub held_there : (busy : List Executor) (jobs : List Job) (j : ℕ) (job : Job) (o : Option Executor)
    → IsBusy busy jobs → slice_get jobs j ≡ Some job → o ≡ held job
    → IfSome o (λ e. 0 < times e busy)
held_there busy jobs j job None agrees there h = tt
held_there busy jobs j job (Some e) agrees there h =
    held_is_busy busy jobs j job e agrees there (sym h)

-- a job is changed by g, and what it held is replaced by what it holds
pub busy_changed : (g : Job → Job) (before after : List Executor) (jobs : List Job) (j : ℕ)
    (job x later : Job) (o p : Option Executor) → IsBusy before jobs
    → slice_get jobs j ≡ Some job → slice_get jobs j ≡ Some x → later ≡ g x → o ≡ held job
    → p ≡ held (g job) → IsReplaced o p before after → IsBusy after (slice_set jobs j later)
busy_changed g before after jobs j job x later o p agrees there again is was now replaced =
    let same : job ≡ x = some_injective (sym there ∙ again) in
    let holds : p ≡ held later = now ∙ ap (λ y. held (g y)) same ∙ ap held (sym is) in
    busy_replaced before after jobs j job later agrees there
    (record {
      each = λ e.
          let moved = replaced.each e in
          let first = ap (time e) was in
          let second = ap (time e) holds in
          omega (arith, moved, first, second);
    })

-- a job is changed by g, and holds what it held
pub busy_kept : (g : Job → Job) (busy : List Executor) (jobs : List Job) (j : ℕ) (x later : Job)
    → IsBusy busy jobs → slice_get jobs j ≡ Some x → later ≡ g x → held (g x) ≡ held x
    → IsBusy busy (slice_set jobs j later)
busy_kept g busy jobs j x later agrees there is same =
    busy_stays busy jobs j x later agrees there (ap held is ∙ same)

-- what was put in and taken out
pub busy_moved : (held later out put : Option Executor) (before between after : List Executor)
    → ((e : Executor) → time e out + time e later ≡ time e put + time e held)
    → IsReplaced None put before between → IsReplaced out None between after
    → IsReplaced held later before after
busy_moved held later out put before between after alike puts takes = record {
  each = λ e.
      let a = alike e in
      let p = puts.each e in
      let t = takes.each e in
      omega (arith, a, p, t);
}

pub busy_undone : (put : Option Executor) (before between after : List Executor) (jobs : List Job)
    → IsReplaced None put before between → IsReplaced put None between after → IsBusy before jobs
    → IsBusy after jobs
busy_undone put before between after jobs puts takes agrees = record {
  each = λ e h.
      let p = puts.each e in
      let t = takes.each e in
      let a = agrees.each e h in
      omega (arith, p, t, a);
}

pub out_there : (held out : Option Executor) (before between : List Executor)
    → IfSome held (λ e. 0 < times e before) → IfSome out (λ e. held ≡ Some e)
    → ((e : Executor) → times e before ≤ times e between) → IfSome out (λ e. 0 < times e between)
out_there held None before between there is more = tt
out_there held (Some e) before between there is more =
    let here : 0 < times e before = subst (λ o. IfSome o (λ e. 0 < times e before)) is there in
    let less = more e in
    omega (arith, here, less)

-- what a job holds after a change
get_changed : {A : Type 0} (g : A → A) (i : ℕ) (xs : List A)
    → slice_get (changed_at g i xs) i ≡ option_map g (slice_get xs i)
get_changed {A = A} g i xs = by (slice_get xs i) refl where
  by : (o : Option A) → slice_get xs i ≡ o
      → slice_get (changed_at g i xs) i ≡ option_map g (slice_get xs i)
  by None e =
      ap (λ l. slice_get l i) (changed_at_none g i xs e) ∙ e ∙ sym (ap (option_map g) e)
  by (Some x) e = changed_at_found g i xs x e ∙ sym (ap (option_map g) e)

abbrev executor_held : Option Frame → Option Executor
executor_held o = option_and_then (λ frame. exclusive frame.executor) o

same_executor : (g : Frame → Frame) → ((f : Frame) → (g f).executor ≡ f.executor)
    → (o : Option Frame) → executor_held (option_map g o) ≡ executor_held o
same_executor g keeps None = refl
same_executor g keeps (Some f) = ap exclusive (keeps f)

top_changed : (g : Frame → Frame) (job : Job)
    → top_frame (in_top g job) ≡ option_map g (top_frame job)
unfolding top_frame in_top
top_changed g job =
    let place = length job.frames - 1 in
    ap (λ n. slice_get (changed_at g place job.frames) (n - 1))
    (length-changed_at g place job.frames) ∙ get_changed g place job.frames

held_in_top : (g : Frame → Frame) → ((f : Frame) → (g f).executor ≡ f.executor) → (job : Job)
    → held (in_top g job) ≡ held job
unfolding held is_running in_top
held_in_top g keeps job =
    ap (λ o. cond (is_running_status job.status) o None)
    (ap executor_held (top_changed g job) ∙ same_executor g keeps (top_frame job))

pub held_finished : (r : ℕ) (v : Value) (next : ℕ) (job : Job)
    → held (in_top (finish_instr r v next) job) ≡ held job
unfolding finish_instr
held_finished r v next job = held_in_top (finish_instr r v next) (λ f. refl) job

pub held_field : (r i : ℕ) (v : Value) (next : ℕ) (job : Job)
    → held (in_top (set_field r i v next) job) ≡ held job
unfolding set_field
held_field r i v next job = held_in_top (set_field r i v next) (λ f. refl) job

pub held_going : (next : ℕ) (job : Job) → held (in_top (go_on next) job) ≡ held job
unfolding go_on
held_going next job = held_in_top (go_on next) (λ f. refl) job

pub held_woken : (r : ℕ) (v : Value) (job : Job) → held (wake r v job) ≡ None
unfolding held is_running wake
held_woken r v job = refl

pub held_waiting : (on r next : ℕ) (job : Job) → held (wait on r next job) ≡ None
unfolding held is_running wait
held_waiting on r next job = refl

pub held_resting : (r next : ℕ) (job : Job) → held (rest r next job) ≡ None
unfolding held is_running rest
held_resting r next job = refl

pub held_new : (frames : List Frame) → held (new_job frames) ≡ None
unfolding held is_running new_job
held_new frames = refl

pub held_dispatched : (job : Job) → held (dispatch job) ≡ executor_held (top_frame job)
unfolding held is_running dispatch top_frame
held_dispatched job = refl

entered_top : (frame : Frame) (next : ℕ) (job : Job) → top_frame (enter frame next job) ≡ Some frame
unfolding top_frame enter
entered_top frame next job =
    let below = changed_at (go_on next) (length job.frames - 1) job.frames in
    let place : length (below ++ frame ∷ []) - 1 ≡ length below =
    omega (arith, length-append below (frame ∷ [])) in
    ap (slice_get (below ++ frame ∷ [])) place ∙ slice_get_end below frame

-- a job that is made ready holds nothing
going : (crosses : Bool) (status : Status) (e : Option Executor)
    → cond (is_running_status (cond crosses Ready status)) e None
    ≡ cond (crosses || not (is_running_status status)) None e
going true status e = refl
going false status e = by (is_running_status status) where
  by : (b : Bool) → cond b e None ≡ cond (not b) None e
  by true = refl
  by false = refl

-- a job that calls holds the executor of the frame that is pushed, if that does not cross
pub held_entered : (frame : Frame) (next : ℕ) (job : Job)
    → held (enter frame next job)
    ≡ cond (frame.crossing || not (is_running job)) None (exclusive frame.executor)
unfolding held is_running enter
held_entered frame next job =
    ap (λ o. cond (is_running_status (cond frame.crossing Ready job.status)) (executor_held o) None)
    (entered_top frame next job) ∙ going frame.crossing job.status (exclusive frame.executor)

get_take : {A : Type 0} (xs : List A) (k i : ℕ) (x : A) → i < k → slice_get xs i ≡ Some x
    → slice_get (take k xs) i ≡ Some x
get_take [] k i x h e = cc
get_take (z ∷ zs) zero i x h e = absurd (omega arith)
get_take (z ∷ zs) (suc k) zero x h e = e
get_take (z ∷ zs) (suc k) (suc i) x h e = get_take zs k i x (omega arith) e

take_result_stays : (r : ℕ) (v : Value) (f : Frame) → (take_result r v f).executor ≡ f.executor
unfolding take_result set_register
take_result_stays r v f = by (eqb r NO_REGISTER) where
  by : (b : Bool)
      → (cond b f (record f { regs = slice_set f.regs r (Some v) })).executor ≡ f.executor
  by true = refl
  by false = refl

last_set : {A : Type 0} (xs : List A) (x y : A) → slice_get xs (length xs - 1) ≡ Some x
    → slice_get (slice_set xs (length xs - 1) y) (length (slice_set xs (length xs - 1) y) - 1)
    ≡ Some y
last_set xs x y e =
    ap (λ n. slice_get (slice_set xs (length xs - 1) y) (n - 1)) (length-set xs (length xs - 1) y)
    ∙ set_there xs (length xs - 1) x y e

-- a job whose top frame returns holds the executor of the frame below, if it goes on running
pub held_left : (v : Value) (job : Job) (above below : Frame)
    → slice_get job.frames (length job.frames - 1) ≡ Some above
    → slice_get job.frames (length job.frames - 2) ≡ Some below → 1 < length job.frames
    → held (leave v job)
    ≡ cond (above.crossing || not (is_running job)) None (exclusive below.executor)
unfolding held is_running leave top_frame
held_left v job above below top second more =
    let earlier = take (length job.frames - 1) job.frames in
    let count : length earlier ≡ length job.frames - 1 =
    length-take-le (length job.frames - 1) job.frames (omega arith) in
    let place : length earlier - 1 ≡ length job.frames - 2 = omega (arith, count) in
    let there : slice_get earlier (length earlier - 1) ≡ Some below =
    rw place (get_take job.frames (length job.frames - 1) (length job.frames - 2) below
    (omega arith) second) in
    let y = take_result above.result v below in
    ap (λ o. held (return_from o v job)) top
    ∙ ap held (return_to_there earlier above below v job.status there)
    ∙ ap (λ o.
    cond (is_running_status (cond above.crossing Ready job.status)) (executor_held o) None)
    (last_set earlier below y there)
    ∙ ap (λ e. cond (is_running_status (cond above.crossing Ready job.status)) (exclusive e) None)
    (take_result_stays above.result v below)
    ∙ going above.crossing job.status (exclusive below.executor)

-- a job without a frame below its top one ends
pub held_ended : (v : Value) (job : Job) → length job.frames < 2 → held (leave v job) ≡ None
unfolding held is_running top_frame
held_ended v job few = by job.frames refl few where
  by : (frames : List Frame) → job.frames ≡ frames → length frames < 2 → held (leave v job) ≡ None
  by [] e few =
      ap held (leave_none v job e)
      ∙ ap (λ (l : List Frame). cond (is_running_status job.status)
      (executor_held (slice_get l (length l - 1))) None) e
      ∙ none (is_running_status job.status) where
        none : (b : Bool) → cond b (executor_held None) None ≡ None
        none true = refl
        none false = refl
  by (f ∷ []) e few = ap held (leave_some v job [] f e)
  by (f ∷ g ∷ fs) e few = absurd (omega arith)

-- the same, where the number of frames has a name
pub held_left_at : (v : Value) (job : Job) (depth : ℕ) (above below : Frame)
    → depth ≡ length job.frames → slice_get job.frames (depth - 1) ≡ Some above
    → slice_get job.frames (depth - 2) ≡ Some below → 1 < depth
    → held (leave v job)
    ≡ cond (above.crossing || not (is_running job)) None (exclusive below.executor)
held_left_at v job depth above below e top second more =
    held_left v job above below (ap (λ n. slice_get job.frames (n - 1)) (sym e) ∙ top)
    (ap (λ n. slice_get job.frames (n - 2)) (sym e) ∙ second) (omega (arith, e, more))
