-- A secure state after a step, from what the step leaves of it.
use Rattle.std.proofs.Common.{◌≡◌, ◌⊎◌, ℕ, true, Option, Some, List, length, refl, sym}
use Rattle.std.proofs.Common.{subst, ap, ◌∙◌, arith, inl, inr}
use Rattle.std.specs.List.{slice_get}
use Rattle.std.proofs.lemmas.Option.{slice_get_within}
use Rattle.sw_list.proofs.ListLemmas.{some_injective}
use Rattle.sw_types.specs.declared.ty.Ty.{Ty}
use Rattle.sw_graph.specs.declared.graph.Graph.{Graph}
use Rattle.sw_graph.specs.Clean.{may_cross}
use Rattle.sw_value.specs.declared.frame.Frame.{Frame}
use Rattle.sw_value.specs.declared.job.Job.{Job}
use Rattle.sw_value.specs.declared.job.Status.TheVariants.{Ended, Waiting}
use Rattle.sw_value.specs.declared.state.State.{State}
use Rattle.sw_value.specs.Reach.{step_of}
use Rattle.sw_partition.specs.Regions.{Regions}
use Rattle.sw_machine_kind_facts.specs.Kinded.{Kinded, KindedLater}
use Rattle.sw_machine_kind_facts.specs.Standing.{JobFits, StatusFits, awaited_at, goes, over}
use Rattle.sw_machine_kind_facts.proofs.ItemLemmas.{found_within}
use Rattle.sw_reach_facts.specs.Coloured.{HaveColours}
use Rattle.sw_view_facts.specs.Views.{Colours}
use Rattle.sw_store_facts.specs.Sound.{HasSoundView}
use Rattle.sw_secure_facts.specs.Memory.{OwnsMemory}
use Rattle.sw_secure_facts.specs.Secure.{HeresFit, IsSecure, WaitsFit}
use Rattle.sw_secure_facts.proofs.Secured.{later_kinds, secured}

-- ---- what waits
-- In the job no frame but one of before waits, of the same function and for the same register, and
-- the job waits only if it waited.
pub record WaitsAs (was now : Job) : Type 0 where
  pub frames : (i r : ℕ) (frame : Frame) → slice_get now.frames i ≡ Some frame
      → awaited_at now i ≡ Some r → (old : Frame) × (slice_get was.frames i ≡ Some old)
      × (old.function ≡ frame.function) × (awaited_at was i ≡ Some r)
  pub status : (on r : ℕ) → now.status ≡ Waiting on r → was.status ≡ Waiting on r

-- nothing in the job waits
pub record IsIdle (now : Job) : Type 0 where
  pub frames : (i r : ℕ) (frame : Frame) → slice_get now.frames i ≡ Some frame
      → awaited_at now i ≡ Some r → ⊥
  pub status : (on r : ℕ) → now.status ≡ Waiting on r → ⊥

-- each job waits as it did, or is idle
abbrev pub WaitsOn : State → State → Type 0
WaitsOn state next = (j : ℕ) (now : Job) → slice_get next.jobs j ≡ Some now
    → ((was : Job) × (slice_get state.jobs j ≡ Some was) × WaitsAs was now) ⊎ IsIdle now

pub waits_itself : (job : Job) → WaitsAs job job
waits_itself job = record {
  frames = λ i r frame at waits. (frame, at, refl, waits);
  status = λ on r is. is;
}

-- a job that waits does so for one with a result
awaited_result : (graph : Graph) (state : State) (kinded : Kinded graph state) (j on r : ℕ)
    (job : Job) → slice_get state.jobs j ≡ Some job → job.status ≡ Waiting on r
    → (result : Ty) × (slice_get kinded.world.results on ≡ Some result)
awaited_result graph state kinded j on r job there waits =
    let count = kinded.fits.job_count in
    let inside = slice_get_within state.jobs j job there in
    let own = found_within kinded.world.results j (omega (arith, inside, count)) in
    by job own.0 (kinded.fits.jobs j job own.0 there own.1) waits where
      by : (x : Job) (ty : Ty) → JobFits graph kinded.world x ty → x.status ≡ Waiting on r
          → (result : Ty) × (slice_get kinded.world.results on ≡ Some result)
      by x ty (over y t v none ended has) waits =
          absurd (let clash : Ended v ≡ Waiting on r = sym ended ∙ waits in let w : ⊥ = cc in w)
      by x ty (goes y t below top are stack status) waits =
          let fits = subst (StatusFits graph kinded.world top) waits status in (
            fits.result,
            fits.is,
          )

pub waits_stay : (graph : Graph) (state next : State) (kinded : Kinded graph state)
    (later : KindedLater graph kinded.world next) → WaitsOn state next
    → WaitsFit graph kinded.world.results state
    → WaitsFit graph later.kinded.world.results next
waits_stay graph state next kinded later waiting fit = record {
  selves = λ j i r job frame function there at is self waits.
      elim (waiting j job there) [
        | inl before ↦
            let old = before.2.frames i r frame at waits in
            fit.selves j i r before.0 old.0 function before.1 old.1
            (ap (slice_get graph.functions) old.2 ∙ is) self old.3
        | inr idle ↦ absurd (idle.frames i r frame at waits)
      ];
  results = λ j on r job result there waits at. elim (waiting j job there) [
    | inl before ↦
        let was = before.2.status on r waits in
        let old = awaited_result graph state kinded j on r before.0 before.1 was in
        let now = later.grows.results on old.0 old.1 in
        let same : old.0 ≡ result = some_injective (sym now ∙ at) in
        subst (λ t. may_cross graph t ≡ true) same
        (fit.results j on r before.0 old.0 before.1 was old.1)
    | inr idle ↦ absurd (idle.status on r waits)
  ];
}

-- ---- colours of frames
-- no job has other numbers of frames
pub heres_stay : (state next : State) (colours : Colours) → length next.jobs ≡ length state.jobs
    → ((j : ℕ) (now : Job) → slice_get next.jobs j ≡ Some now → (was : Job)
    × (slice_get state.jobs j ≡ Some was) × (length now.frames ≡ length was.frames))
    → HeresFit state colours → HeresFit next colours
heres_stay state next colours jobs frames fit = record {
  jobs = fit.jobs ∙ sym jobs;
  frames = λ j job row there at.
      let old = frames j job there in
      fit.frames j old.0 row old.1 at ∙ sym old.2;
}

-- ---- the whole
pub secure_after : (graph : Graph) (states : ℕ → List (Option Regions)) (state : State)
    (colours : Colours) → IsSecure graph states state colours → (j : ℕ) (after : Colours)
    → HaveColours graph (step_of graph state j).cells after.cells
    → HasSoundView graph states (step_of graph state j) after
    → OwnsMemory graph (step_of graph state j) after → HeresFit (step_of graph state j) after
    → WaitsOn state (step_of graph state j) → IsSecure graph states (step_of graph state j) after
secure_after graph states state colours s j after have sound memory heres waiting =
    secured graph states state colours s j after have sound memory heres
    (waits_stay graph state (step_of graph state j) s.coloured.kinded
    (later_kinds graph states state colours s j) waiting s.waits)
