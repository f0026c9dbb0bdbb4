-- Where code writes: into the block that goes on, and into blocks that it makes.
use Rattle.std.specs.Prelude.{◌≡◌, ◌≢◌, ℕ, ◌<◌, ◌≤◌, ◌⊎◌, Ok, length}
use Rattle.sw_lower_plans.specs.Run.{IsGoing, Making, instrs_at}
use Rattle.sw_lower_code.specs.Code.{Code}

-- From s to t, of the first blocks, as many as the count, only `own` is written into. The block
-- that goes on is `own` or none of those.
pub record Stays (count own : ℕ) (s t : Making) : Type 0 where
  pub others : (number : ℕ) → number < count → number ≢ own
      → instrs_at number t.made.blocks ≡ instrs_at number s.made.blocks
  pub there : (t.here ≡ own) ⊎ (count ≤ t.here)

-- Wherever code begins in such a block, it stays in such blocks.
abbrev pub CodeStays : {A : Type 0} → Code A → Type 0
CodeStays {A} code = (count own : ℕ) (s t : Making) (value : A) → IsGoing s
    → count ≤ length s.made.blocks → (s.here ≡ own) ⊎ (count ≤ s.here)
    → code.run s ≡ Ok (value, t) → Stays count own s t
