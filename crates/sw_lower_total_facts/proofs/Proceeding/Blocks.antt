-- Blocks that were made stay made.
use Rattle.std.proofs.Common.{◌<◌, ℕ, length, arith}
use Rattle.sw_lower_plans.specs.Plan.{Entry}
use Rattle.sw_lower_plans.specs.Run.{Making}
use Rattle.sw_lower_code.specs.Code.{Code, block_for}
use Rattle.sw_lower_total_facts.proofs.Proceeding.Then.{Ran}

-- A block that is there is there after code.
pub more_below : {A : Type 0} (code : Code A) (s t : Making) (value : A) (block : ℕ)
    → Ran code s value t → block < length s.made.blocks → block < length t.made.blocks
more_below code s t value block ran below = omega (arith, ran.1.blocks, below)

-- A block that is made is there.
pub made_below : (entry : Entry) (s t : Making) (block : ℕ) → Ran (block_for entry) s block t
    → block < length t.made.blocks
unfolding block_for
made_below entry s t block ran = omega (arith, ran.0, ran.1.blocks)
