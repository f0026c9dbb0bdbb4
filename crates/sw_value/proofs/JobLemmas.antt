-- Lemmas on changes of a job.
use Rattle.std.proofs.Common.{◌≡◌, ◌-◌, Some, List, [], ◌∷◌, ◌++◌, length, take, cond, refl, ap}
use Rattle.std.proofs.Common.{◌∙◌, arith, length-append}
use Rattle.std.specs.List.{slice_get, slice_set}
use Rattle.sw_value.specs.declared.value.Value.{Value}
use Rattle.sw_value.specs.declared.frame.Frame.{Frame}
use Rattle.sw_value.specs.declared.job.Job.{Job}
use Rattle.sw_value.specs.declared.job.Status.{Status}
use Rattle.sw_value.specs.declared.job.Status.TheVariants.{Ready, Ended}
use Rattle.sw_value.specs.Frame.{take_result}
use Rattle.sw_value.specs.Job.{top_frame, return_to, return_from, leave}
use Rattle.sw_value.proofs.ListLemmas.{changed_at_there, slice_get_end, take_prefix}

pub return_to_none : (below : List Frame) (frame : Frame) (v : Value) (status : Status)
    → length below ≡ 0 → return_to below frame v status ≡ record {
      frames = below;
      status =
          Ended v;
    }
return_to_none [] frame v status e = refl
return_to_none (f ∷ fs) frame v status e = absurd (omega arith)

pub return_to_there : (below : List Frame) (frame f : Frame) (v : Value) (status : Status)
    → slice_get below (length below - 1) ≡ Some f → return_to below frame v status ≡ record {
      frames = slice_set below (length below - 1) (take_result frame.result v f);
      status = cond frame.crossing Ready status;
    }
return_to_there [] frame f v status e = cc
return_to_there (g ∷ fs) frame f v status e =
    let place : length (g ∷ fs) - 1 ≡ length fs = omega arith in
    let there : slice_get (g ∷ fs) (length fs) ≡ Some f = rw (← place) e in
    rw (place, changed_at_there (take_result frame.result v) (length fs) (g ∷ fs) f there) refl

pub leave_none : (v : Value) (job : Job) → job.frames ≡ [] → leave v job ≡ job
unfolding leave top_frame
leave_none v job e = ap (λ o. return_from o v job)
    (ap (λ (l : List Frame). slice_get l (length l - 1)) e)

pub leave_some : (v : Value) (job : Job) (below : List Frame) (frame : Frame) → job.frames ≡ below
    ++ frame ∷ [] → leave v job ≡ return_to below frame v job.status
unfolding leave top_frame
leave_some v job below frame e =
    let place : length job.frames - 1 ≡ length below =
    omega (arith, ap length e, length-append below (frame ∷ [])) in
    let top : slice_get job.frames (length job.frames - 1) ≡ Some frame =
    rw (place, e) (slice_get_end below frame) in
    let prefix : take (length job.frames - 1) job.frames ≡ below =
    rw (place, e) (take_prefix below frame) in
    ap (λ o. return_from o v job) top ∙ ap (λ l. return_to l frame v job.status) prefix

pub ruleset returns = (return_to_none, return_to_there, leave_none, leave_some)
