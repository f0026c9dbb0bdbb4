-- A state of which one job has changed, and nothing else.
use Rattle.std.proofs.Common.{◌≡◌, ◌≢◌, ◌⊎◌, ◌+◌, ◌-◌, ℕ, Option, Some, None, List, length, refl}
use Rattle.std.proofs.Common.{sym, subst}
use Rattle.std.proofs.Common.{ap, ◌∙◌, inl, inr}
use Rattle.std.specs.List.{slice_get}
use Rattle.std.proofs.lemmas.Bool.{cases_eq}
use Rattle.sw_list.proofs.ListLemmas.{some_injective}
use Rattle.sw_graph.specs.declared.graph.Graph.{Graph}
use Rattle.sw_value.specs.declared.frame.Frame.{Frame}
use Rattle.sw_value.specs.declared.job.Job.{Job}
use Rattle.sw_value.specs.declared.state.State.{State}
use Rattle.sw_value.specs.Job.{in_top}
use Rattle.sw_value.specs.Lists.{changed_at}
use Rattle.sw_value.specs.State.{in_job}
use Rattle.sw_value.proofs.ListLemmas.{changed_at_found, changed_at_none, length-changed_at}
use Rattle.sw_machine_kind_facts.specs.Standing.{awaited_at, awaited_in, or_above}
use Rattle.sw_machine_kind_facts.proofs.ItemLemmas.{changed_other}
use Rattle.sw_reach_facts.specs.Coloured.{HaveColours}
use Rattle.sw_view_facts.specs.Views.{Colours}
use Rattle.sw_secure_facts.specs.Memory.{OwnsMemory}
use Rattle.sw_secure_facts.specs.Secure.{HeresFit}
use Rattle.sw_secure_facts.proofs.Staying.{memory_stays}
use Rattle.sw_secure_job_facts.proofs.Next.{WaitsAs, WaitsOn, heres_stay, waits_itself}

-- What a frame awaits of a job that doesn't wait, it awaits whatever the job does.
pub awaited_above : (frames : List Frame) (i r : ℕ) (o : Option ℕ)
    → or_above (slice_get frames i) None ≡ Some r → or_above (slice_get frames i) o ≡ Some r
awaited_above frames i r o is = by (slice_get frames i) is where
  by : (f : Option Frame) → or_above f None ≡ Some r → or_above f o ≡ Some r
  by None is = cc
  by (Some f) is = is

-- ---- a job whose top frame has changed
-- the frame that a frame was, of the same function, with a result for the same register
pub record WasFrame (job : Job) (i : ℕ) (now : Frame) : Type 0 where
  pub frame : Frame
  pub there : slice_get job.frames i ≡ Some frame
  pub function : frame.function ≡ now.function
  pub result : frame.result ≡ now.result

pub turned_frames : (g : Frame → Frame) → ((h : Frame) → (g h).function ≡ h.function)
    → ((h : Frame) → (g h).result ≡ h.result) → (job : Job) (i : ℕ) (now : Frame)
    → slice_get (changed_at g (length job.frames - 1) job.frames) i ≡ Some now
    → WasFrame job i now
turned_frames g functions results job i now at = by (slice_get job.frames top) refl where
  top : ℕ
  top = length job.frames - 1

  by : (o : Option Frame) → slice_get job.frames top ≡ o → WasFrame job i now
  by None none = record {
    frame = now;
    there = sym (ap (λ l. slice_get l i) (changed_at_none g top job.frames none)) ∙ at;
    function = refl;
    result = refl;
  }
  by (Some f) there = elim (cases_eq i top) [
    | inr differ ↦ record {
      frame = now;
      there = sym (changed_other g top i job.frames differ) ∙ at;
      function = refl;
      result = refl;
    }
    | inl same ↦
        let is : g f ≡ now =
        some_injective (sym (changed_at_found g top job.frames f there)
        ∙ ap (slice_get (changed_at g top job.frames)) (sym same) ∙ at) in
        record {
          frame = f;
          there = ap (slice_get job.frames) same ∙ there;
          function = sym (functions f) ∙ ap (λ (h : Frame). h.function) is;
          result = sym (results f) ∙ ap (λ (h : Frame). h.result) is;
        }
  ]

-- a job that doesn't wait, and goes on as it is
pub waits_turned : (g : Frame → Frame) → ((h : Frame) → (g h).function ≡ h.function)
    → ((h : Frame) → (g h).result ≡ h.result) → (job : Job) → awaited_in job.status ≡ None
    → WaitsAs job (in_top g job)
unfolding in_top
waits_turned g functions results job idle = record {
  frames = λ i r frame at waits.
      let old = turned_frames g functions results job i frame at in (
        old.frame,
        old.there,
        old.function,
        by i r (slice_get (in_top g job).frames (i + 1)) refl waits,
      );
  status = λ on r is. is;
}
  where
    by : (i r : ℕ) (o : Option Frame) → slice_get (in_top g job).frames (i + 1) ≡ o
        → or_above o (awaited_in job.status) ≡ Some r → awaited_at job i ≡ Some r
    by i r None is waits =
        let clash : None ≡ Some r = sym idle ∙ waits in absurd (let z : ⊥ = cc in z)
    by i r (Some t) is waits =
        let old = turned_frames g functions results job (i + 1) t is in
        ap (λ o. or_above o (awaited_in job.status)) old.there ∙ ap Some old.result ∙ waits

-- ---- a job that has changed
module _ (g : Job → Job) (j : ℕ) (state next : State) (steps : next ≡ in_job g j state) (job : Job)
    (there : slice_get state.jobs j ≡ Some job) where
  pub cells_same : next.cells ≡ state.cells
  unfolding in_job
  cells_same = ap (λ (s : State). s.cells) steps

  pub globals_same : next.globals ≡ state.globals
  unfolding in_job
  globals_same = ap (λ (s : State). s.globals) steps

  pub count_same : length next.jobs ≡ length state.jobs
  unfolding in_job
  count_same = ap (λ (s : State). length s.jobs) steps ∙ length-changed_at g j state.jobs

  pub job_now : slice_get next.jobs j ≡ Some (g job)
  unfolding in_job
  job_now = ap (λ (s : State). slice_get s.jobs j) steps ∙ changed_at_found g j state.jobs job there

  pub job_other : (k : ℕ) → k ≢ j → slice_get next.jobs k ≡ slice_get state.jobs k
  unfolding in_job
  job_other k differ =
      ap (λ (s : State). slice_get s.jobs k) steps ∙ changed_other g j k state.jobs differ

  -- each job was, and is as it was or the one that changed
  pub job_was : (k : ℕ) (now : Job) → slice_get next.jobs k ≡ Some now → (was : Job)
      × (slice_get state.jobs k ≡ Some was) × ((now ≡ was) ⊎ ((was ≡ job) × (now ≡ g job)))
  job_was k now at = elim (cases_eq k j) [
    | inl same ↦ (
      job,
      ap (slice_get state.jobs) same ∙ there,
      inr (refl, some_injective (sym at ∙ ap (slice_get next.jobs) same ∙ job_now)),
    )
    | inr differ ↦ (now, sym (job_other k differ) ∙ at, inl refl)
  ]

  pub waits_changed : WaitsAs job (g job) → WaitsOn state next
  waits_changed waits k now at =
      let old = job_was k now at in
      inl (
        old.0,
        old.1,
        elim old.2 [
          | inl same ↦ subst (λ n. WaitsAs old.0 n) (sym same) (waits_itself old.0)
          | inr both ↦ subst (λ n. WaitsAs old.0 n) (sym both.1)
              (subst (λ w. WaitsAs w (g job)) (sym both.0) waits)
        ],
      )

  pub heres_changed : (colours : Colours) → length (g job).frames ≡ length job.frames
      → HeresFit state colours → HeresFit next colours
  heres_changed colours frames fit = heres_stay state next colours count_same
      (λ k now at.
      let old = job_was k now at in (
        old.0,
        old.1,
        elim old.2 [
          | inl same ↦ ap (λ (x : Job). length x.frames) same
          | inr both ↦ ap (λ (x : Job). length x.frames) both.1 ∙ frames
              ∙ sym (ap (λ (x : Job). length x.frames) both.0)
        ],
      )) fit

  pub memory_changed : (graph : Graph) (colours : Colours) → OwnsMemory graph state colours
      → OwnsMemory graph next colours
  memory_changed graph colours =
      memory_stays graph colours state next cells_same globals_same

  pub have_changed : (graph : Graph) (colours : Colours)
      → HaveColours graph state.cells colours.cells → HaveColours graph next.cells colours.cells
  have_changed graph colours = subst (λ cs. HaveColours graph cs colours.cells) (sym cells_same)
