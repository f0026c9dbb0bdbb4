-- What a change of a job's top frame does to the frames of a state.
use Rattle.std.specs.Option.{option_and_then, option_map_or}
use Rattle.std.specs.List.{slice_get}
use Rattle.std.proofs.Common.{List, ◌++◌, ◌∷◌, [], ◌≡◌, ◌≢◌, ℕ, suc, ◌-◌, false, Some, None, length}
use Rattle.std.proofs.Common.{refl, sym, ap, ◌∙◌, arith, inl, inr, length-append}
use Rattle.std.proofs.lemmas.Bool.{cases_eq}
use Rattle.std.proofs.lemmas.Option.{slice_get_past}
use Rattle.sw_list.proofs.ListLemmas.{some_injective}
use Rattle.sw_value.specs.declared.frame.Frame.{Frame}
use Rattle.sw_value.specs.declared.job.Job.{Job}
use Rattle.sw_value.specs.declared.state.State.{State}
use Rattle.sw_value.specs.declared.value.Value.{Value}
use Rattle.sw_value.specs.declared.value.Value.TheVariants as value
use Rattle.sw_value.specs.Frame.{finish_instr, go_on, set_register}
use Rattle.sw_value.specs.Job.{in_top, is_running, rest, wait, wake}
use Rattle.sw_value.specs.Lists.{changed_at}
use Rattle.sw_value.specs.State.{in_job}
use Rattle.sw_value.proofs.ListLemmas.{changed_at_found, length-changed_at, slice_get_end}
use Rattle.sw_machine_kind_facts.proofs.ItemLemmas.{changed_other, split_end}
use Rattle.sw_owner_facts.specs.View.{above, Frame as Spot}
use Rattle.sw_owner_facts.proofs.FrameLemmas.{same_frame}
use Rattle.sw_view_facts.specs.Steps.{TopAt, SameCall, TurnsTop, ChangesFrame, height_in, runs_in}
use Rattle.sw_view_facts.specs.Views.{frame_at}

-- ---- changes of a job that turn its top frame
pub turns_in_top : (g : Frame → Frame) → TurnsTop g (in_top g)
unfolding in_top is_running
turns_in_top g = record { frames = λ job. refl; runs = λ job run. run }

pub turns_wait : (on r next : ℕ) → TurnsTop (go_on next) (wait on r next)
unfolding wait is_running
turns_wait on r next = record { frames = λ job. refl; runs = λ job run. cc }

pub turns_rest : (r next : ℕ) → TurnsTop (finish_instr r value.Unit next) (rest r next)
unfolding rest is_running
turns_rest r next = record { frames = λ job. refl; runs = λ job run. cc }

pub turns_wake : (r : ℕ) (v : Value) → TurnsTop (set_register r v) (wake r v)
unfolding wake is_running
turns_wake r v = record { frames = λ job. refl; runs = λ job run. cc }

-- ---- the top frame of a job
pub frame_was : (state : State) (q : Spot) (job : Job) (f : Frame) → TopAt state q job f
    → frame_at state q ≡ Some f
frame_was state q job f at =
    ap (option_and_then (λ (job : Job). slice_get job.frames q.depth)) at.there ∙ at.top

pub nothing_above : (state : State) (q : Spot) (job : Job) (f : Frame) → TopAt state q job f
    → frame_at state (above q) ≡ None
nothing_above state q job f at =
    ap (option_and_then (λ (j : Job). slice_get j.frames (suc q.depth))) at.there
    ∙ slice_get_past job.frames (suc q.depth) (let h = at.height in omega (arith, h))

pub height_is : (state : State) (q : Spot) (job : Job) (f : Frame) → TopAt state q job f
    → height_in state q.job ≡ suc q.depth
height_is state q job f at =
    ap (λ o. option_map_or (λ (job : Job). length job.frames) o 0) at.there ∙ at.height

-- ---- such a change, in a state whose memory may change too
module _ (g : Frame → Frame) (h : Job → Job) (turns : TurnsTop g h) (state mid : State)
    (same_jobs : mid.jobs ≡ state.jobs) (q : Spot) (job : Job) (f : Frame)
    (at : TopAt state q job f) where
  abbrev next : State
  next = in_job h q.job mid

  index_is : length job.frames - 1 ≡ q.depth
  index_is = let h = at.height in omega (arith, h)

  job_now : slice_get next.jobs q.job ≡ Some (h job)
  unfolding in_job
  job_now = changed_at_found h q.job mid.jobs job (ap (λ l. slice_get l q.job) same_jobs ∙ at.there)

  job_other : (j : ℕ) → (j ≡ q.job → ⊥) → slice_get next.jobs j ≡ slice_get state.jobs j
  unfolding in_job
  job_other j differ =
      changed_other h q.job j mid.jobs differ ∙ ap (λ l. slice_get l j) same_jobs

  frame_now : frame_at next q ≡ Some (g f)
  frame_now = ap (option_and_then (λ (job : Job). slice_get job.frames q.depth)) job_now
      ∙ ap (λ l. slice_get l q.depth) (turns.frames job)
      ∙ ap (λ i. slice_get (changed_at g i job.frames) q.depth) index_is
      ∙ changed_at_found g q.depth job.frames f at.top

  other_now : (p : Spot) → p ≢ q → frame_at next p ≡ frame_at state p
  other_now p differ = elim (cases_eq p.job q.job) [
    | inr apart ↦
        ap (option_and_then (λ (job : Job). slice_get job.frames p.depth)) (job_other p.job apart)
    | inl same ↦
        ap (λ j. option_and_then (λ (job : Job). slice_get job.frames p.depth)
        (slice_get next.jobs j)) same
        ∙ ap (option_and_then (λ (job : Job). slice_get job.frames p.depth)) job_now
        ∙ ap (λ l. slice_get l p.depth) (turns.frames job)
        ∙ ap (λ i. slice_get (changed_at g i job.frames) p.depth) index_is
        ∙ changed_other g q.depth p.depth job.frames (λ e. differ (same_frame same e))
        ∙ sym (ap (option_and_then (λ (job : Job). slice_get job.frames p.depth))
        (ap (slice_get state.jobs) same ∙ at.there))
  ]

  height_now : (j : ℕ) → height_in next j ≡ height_in state j
  height_now j = elim (cases_eq j q.job) [
    | inr apart ↦ ap (λ o. option_map_or (λ (job : Job). length job.frames) o 0)
        (job_other j apart)
    | inl same ↦
        ap (height_in next) same
        ∙ ap (λ o. option_map_or (λ (job : Job). length job.frames) o 0) job_now
        ∙ ap length (turns.frames job)
        ∙ length-changed_at g (length job.frames - 1) job.frames
        ∙ sym (ap (λ o. option_map_or (λ (job : Job). length job.frames) o 0)
        (ap (slice_get state.jobs) same ∙ at.there))
  ]

  running_now : (j : ℕ) → runs_in next j → runs_in state j
  running_now j run = elim (cases_eq j q.job) [
    | inr apart ↦ sym (ap (λ o. option_map_or is_running o false) (job_other j apart)) ∙ run
    | inl same ↦
        ap (λ o. option_map_or is_running o false) (ap (slice_get state.jobs) same ∙ at.there)
        ∙ turns.runs job (sym (ap (λ o. option_map_or is_running o false)
        (ap (slice_get next.jobs) same ∙ job_now)) ∙ run)
  ]

  pub turned : SameCall f (g f) → ChangesFrame state next q f (g f)
  turned call = record {
    was = frame_was state q job f at;
    now = frame_now;
    alone = nothing_above state q job f at;
    others = other_now;
    top = height_is state q job f at;
    heights = height_now;
    running = running_now;
    call = call;
  }

-- a list that ends at an index
pub ends_with : {A : Type 0} (l : List A) (n : ℕ) (x : A) → slice_get l n ≡ Some x
    → length l ≡ suc n → (rest : List A) × (l ≡ rest ++ x ∷ []) × (length rest ≡ n)
ends_with [] n x at count = absurd (omega (arith, count))
ends_with (y ∷ ys) n x at count =
    let split = split_end ys y in
    let size = ap length split.2 in
    let parts = length-append split.0 (split.1 ∷ []) in
    let same : length split.0 ≡ n = omega (arith, count, size, parts) in
    let last : Some split.1 ≡ Some x = sym (slice_get_end split.0 split.1)
    ∙ ap (slice_get (split.0 ++ split.1 ∷ [])) same ∙ ap (λ l. slice_get l n) (sym split.2) ∙ at in
    (split.0, split.2 ∙ ap (λ z. split.0 ++ z ∷ []) (some_injective last), same)

-- nothing changes
pub untouched : (state : State) (q : Spot) (job : Job) (f : Frame) → TopAt state q job f
    → ChangesFrame state state q f f
untouched state q job f at = record {
  was = frame_was state q job f at;
  now = frame_was state q job f at;
  alone = nothing_above state q job f at;
  others = λ p differ. refl;
  top = height_is state q job f at;
  heights = λ j. refl;
  running = λ j run. run;
  call = record { function = refl; executor = refl; crossing = refl; result = refl };
}
