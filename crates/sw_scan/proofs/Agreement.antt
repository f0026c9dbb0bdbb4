-- When a form of texts and a function that steps through them agree.
use Rattle.std.proofs.Common.{◌≡◌, ℕ, ◌<◌, List, [], ◌++◌, length, take, drop, Result, Ok, Err}
use Rattle.sw_scan.specs.declared.Step.{Step}
use Rattle.sw_scan.specs.declared.Step.TheVariants.{End, Skip, Take}
use Rattle.sw_scan.specs.Scan.{TextForm}
use Rattle.sw_scan.specs.Reading.{StepOf}

-- what the form says of a step that the function found
abbrev pub StepHolds : {B T F : Type 0} → TextForm B T F → ℕ → B → List ℕ → Result Step F → Type 0
StepHolds form at before bytes (Err fault) = form.IsRefused at before bytes fault
StepHolds form at before bytes (Ok End) = bytes ≡ []
StepHolds form at before bytes (Ok (Skip n)) = form.IsPiece (take n bytes) (drop n bytes)
StepHolds form at before bytes (Ok (Take n)) = form.IsItem before (take n bytes) (drop n bytes)

-- The function finds what the form says, at any bytes, and at bytes that are sound, as UTF-8 may
-- be, nothing else.
pub record Agrees {B T F : Type 0} (form : TextForm B T F) (IsSound : List ℕ → Type 0)
    (step : StepOf B F) : Type 0 where
  pub ends : (at : ℕ) (before : B) → step at before [] ≡ Ok End
  pub skips : (at : ℕ) (before : B) (piece after : List ℕ) → form.IsPiece piece after
      → step at before (piece ++ after) ≡ Ok (Skip (length piece))
  pub takes : (at : ℕ) (before : B) (text after : List ℕ) → form.IsItem before text after
      → step at before (text ++ after) ≡ Ok (Take (length text))
  pub refuses : (at : ℕ) (before : B) (bytes : List ℕ) (fault : F)
      → form.IsRefused at before bytes fault
      → step at before bytes ≡ Err fault
  pub holds : (at : ℕ) (before : B) (bytes : List ℕ) → IsSound bytes
      → StepHolds form at before bytes (step at before bytes)
  -- pieces and items have bytes, and what follows them stays sound
  pub some_piece : (piece after : List ℕ) → form.IsPiece piece after → 0 < length piece
  pub some_item : (before : B) (text after : List ℕ) → form.IsItem before text after
      → 0 < length text
  pub sound_piece : (piece after : List ℕ) → form.IsPiece piece after → IsSound (piece ++ after)
      → IsSound after
  pub sound_item : (before : B) (text after : List ℕ) → form.IsItem before text after
      → IsSound (text ++ after)
      → IsSound after

-- Bytes of any kind are sound.
abbrev pub IsAny : List ℕ → Type 0
IsAny bytes = Unit {0}
