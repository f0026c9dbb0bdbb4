-- The top frame of a job that a step changes, and whether the job runs then.
use Rattle.std.proofs.Common.{◌≡◌, ℕ, ◌-◌, Bool, true, false, cond, Some}
use Rattle.std.proofs.Common.{List, [], ◌∷◌, ◌++◌, length, get_or, refl, sym, ap, ◌∙◌}
use Rattle.std.proofs.Common.{arith, length-append}
use Rattle.std.specs.Prelude.{◌==◌}
use Rattle.std.specs.List.{slice_get}
use Rattle.std.proofs.lemmas.Option.{slice_get-get_or}
use Rattle.sw_list.proofs.ListLemmas.{some_injective}
use Rattle.sw_value.specs.declared.effect.Effect.{Effect}
use Rattle.sw_value.specs.declared.executor.Executor.{Executor}
use Rattle.sw_value.specs.declared.executor.Executor.TheVariants as executor
use Rattle.sw_value.specs.declared.frame.Frame.{Frame}
use Rattle.sw_value.specs.declared.frame.TheConstants.{NO_REGISTER}
use Rattle.sw_value.specs.declared.job.Job.{Job}
use Rattle.sw_value.specs.declared.job.Status.{Status}
use Rattle.sw_value.specs.declared.job.Status.TheVariants.{Ready}
use Rattle.sw_value.specs.declared.value.Value.{Value}
use Rattle.sw_value.specs.Frame.{finish_instr, go_on, set_field, set_register, take_result}
use Rattle.sw_value.specs.Job.{dispatch, enter, in_top, is_running, is_running_status, new_job}
use Rattle.sw_value.specs.Job.{rest, return_to, top_frame, wait, wake}
use Rattle.sw_value.specs.Lists.{changed_at}
use Rattle.sw_value.proofs.ListLemmas.{changed_at_found, length-changed_at}
use Rattle.sw_value.proofs.ListLemmas.{slice_get_end}
use Rattle.sw_view_facts.specs.Effects.{turn_of}
use Rattle.sw_view_facts.specs.Views.{stands_on}

-- a job that is made doesn't run
pub not_new : (frames : List Frame) → is_running (new_job frames) ≡ true → ⊥
unfolding is_running new_job
not_new frames runs = cc

-- a top frame that is changed inside
top_in_top : (h : Frame → Frame) (job : Job) (f : Frame) → top_frame job ≡ Some f
    → top_frame (in_top h job) ≡ Some (h f)
unfolding top_frame in_top
top_in_top h job f top =
    ap (λ n. slice_get (changed_at h (length job.frames - 1) job.frames) (n - 1))
    (length-changed_at h (length job.frames - 1) job.frames)
    ∙ changed_at_found h (length job.frames - 1) job.frames f top

pub turns_stay : (e : Effect) (f : Frame) → (turn_of e f).executor ≡ f.executor
unfolding finish_instr set_field go_on
turns_stay e f = grind arith

pub in_top_stays : (h : Frame → Frame) (job : Job) (f g : Frame)
    → ((k : Frame) → (h k).executor ≡ k.executor) → top_frame job ≡ Some f
    → top_frame (in_top h job) ≡ Some g → g.executor ≡ f.executor
in_top_stays h job f g keeps top now =
    ap (λ (k : Frame). k.executor) (some_injective (sym now ∙ top_in_top h job f top)) ∙ keeps f

taken_stays : (r : ℕ) (v : Value) (f : Frame) → (take_result r v f).executor ≡ f.executor
unfolding take_result set_register
taken_stays r v f = by (r == NO_REGISTER) where
  by : (b : Bool) → (cond b f (set_register r v f)).executor ≡ f.executor
  by true = refl
  by false = refl

-- executors on which a frame stands alike are one
pub same_stand : (x y : Executor) → stands_on x ≡ stands_on y → x ≡ y
same_stand executor.Generic executor.Generic is = refl
same_stand executor.Generic (executor.ActorOf c) is = cc
same_stand executor.Generic (executor.Global g) is = cc
same_stand (executor.ActorOf c) executor.Generic is = cc
same_stand (executor.ActorOf c) (executor.ActorOf d) is = (let e : c ≡ d = cc in ap executor.ActorOf e)
same_stand (executor.ActorOf c) (executor.Global g) is = cc
same_stand (executor.Global g) executor.Generic is = cc
same_stand (executor.Global g) (executor.ActorOf c) is = cc
same_stand (executor.Global g) (executor.Global h) is = (let e : g ≡ h = cc in ap executor.Global e)

pub entered_top : (frame g : Frame) (next : ℕ) (job : Job) → top_frame (enter frame next job) ≡ Some g
    → g ≡ frame
unfolding top_frame enter
entered_top frame g next job now =
    let below = changed_at (go_on next) (length job.frames - 1) job.frames in
    let last : length (below ++ frame ∷ []) - 1 ≡ length below =
    omega (arith, length-append below (frame ∷ [])) in
    some_injective (sym now ∙ ap (slice_get (below ++ frame ∷ [])) last
    ∙ slice_get_end below frame)

pub entered_runs : (frame : Frame) (next : ℕ) (job : Job) → is_running (enter frame next job) ≡ true
    → frame.crossing ≡ false
unfolding is_running enter
entered_runs frame next job runs = by frame.crossing runs where
  by : (b : Bool) → is_running_status (cond b Ready job.status) ≡ true → b ≡ false
  by true is = cc
  by false is = refl

pub not_waiting : (on r next : ℕ) (job : Job) → is_running (wait on r next job) ≡ true → ⊥
unfolding is_running wait
not_waiting on r next job runs = cc

pub not_resting : (r next : ℕ) (job : Job) → is_running (rest r next job) ≡ true → ⊥
unfolding is_running rest
not_resting r next job runs = cc

pub not_woken : (r : ℕ) (v : Value) (job : Job) → is_running (wake r v job) ≡ true → ⊥
unfolding is_running wake
not_woken r v job runs = cc

-- a dispatch leaves the frames
pub dispatched_top : (job : Job) → top_frame job ≡ top_frame (dispatch job)
unfolding top_frame dispatch
dispatched_top job = refl

-- what is left where a frame returns
pub record Returns (below : List Frame) (f g : Frame) : Type 0 where
  pub lower : Frame
  pub at : slice_get below (length below - 1) ≡ Some lower
  pub stays : f.crossing ≡ false
  pub is : g.executor ≡ lower.executor

pub returned : (below : List Frame) (f g : Frame) (v : Value) (status : Status)
    → is_running (return_to below f v status) ≡ true
    → top_frame (return_to below f v status) ≡ Some g → Returns below f g
unfolding is_running top_frame
returned [] f g v status runs now = absurd (let no : ⊥ = cc in no)
returned (b ∷ bs) f g v status runs now =
    let lower = get_or (b ∷ bs) (length bs) b in
    let here = slice_get-get_or (b ∷ bs) (length bs) b (omega arith) in
    let place : length (changed_at (take_result f.result v) (length bs) (b ∷ bs)) - 1 ≡ length bs =
    omega (arith, length-changed_at (take_result f.result v) (length bs) (b ∷ bs)) in
    record {
      lower = lower;
      at = (let last : length (b ∷ bs) - 1 ≡ length bs = omega arith in
          ap (slice_get (b ∷ bs)) last ∙ here);
      stays = by f.crossing runs;
      is = ap (λ (k : Frame). k.executor) (some_injective (sym now
          ∙ ap (slice_get (changed_at (take_result f.result v) (length bs) (b ∷ bs))) place
          ∙ changed_at_found (take_result f.result v) (length bs) (b ∷ bs) lower here))
          ∙ taken_stays f.result v lower;
    }
  where
    by : (c : Bool) → is_running_status (cond c Ready status) ≡ true → c ≡ false
    by true is = cc
    by false is = refl
