-- The scan as a function. It asks a function `step` what stands at an offset, and goes on past it.
use Rattle.std.specs.Prelude.{ℕ, zero, suc, ◌+◌, List, [], ◌∷◌, ◌++◌, length, take, drop, Result}
use Rattle.std.specs.Prelude.{Ok, Err}
use Rattle.sw_scan.specs.declared.Step.{Step}
use Rattle.sw_scan.specs.declared.Step.TheVariants.{End, Skip, Take}
use Rattle.sw_scan.specs.Scan.{TextForm}

-- what the bytes at an offset begin with: nothing, a piece or an item, or a fault
abbrev pub StepOf : Type 0 → Type 0 → Type 0
StepOf B F = ℕ → B → List ℕ → Result Step F

-- the answer of a scan with these items before it
abbrev pub with_prefix : {T F : Type 0} → List T → Result (List T) F → Result (List T) F
with_prefix items (Ok more) = Ok (items ++ more)
with_prefix items (Err fault) = Err fault

-- the answer where this step was found, and `on` goes on past it
abbrev pub past_step : {B T F : Type 0} → TextForm B T F → Result Step F
    → (ℕ → B → List ℕ → Result (List T) F)
    → ℕ → B → List ℕ → Result (List T) F
past_step form (Err fault) on at before bytes = Err fault
past_step form (Ok End) on at before bytes = Ok []
past_step form (Ok (Skip n)) on at before bytes =
    on (at + n) (form.past_piece before (take n bytes)) (drop n bytes)
past_step form (Ok (Take n)) on at before bytes =
    with_prefix (form.item_of at before (take n bytes) (drop n bytes) ∷ [])
    (on (at + n) (form.past_item before (take n bytes)) (drop n bytes))

-- The items of the bytes, which stand at the offset `at`, or their first fault. Each turn goes past
-- some bytes, so that as many turns as bytes are enough.
unfoldable pub read : {B T F : Type 0} → TextForm B T F → StepOf B F → ℕ → ℕ → B → List ℕ
    → Result (List T) F
read form step zero at before bytes = Ok []
read form step (suc turns) at before bytes =
    past_step form (step at before bytes) (read form step turns) at before bytes

-- the same with as many turns as bytes
unfoldable pub scan : {B T F : Type 0} → TextForm B T F → StepOf B F → ℕ → B → List ℕ
    → Result (List T) F
scan form step at before bytes = read form step (length bytes) at before bytes
