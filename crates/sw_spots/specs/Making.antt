-- What code leaves of a function that is being made, and what of that the finished function has.
use Rattle.std.specs.Prelude.{◌≡◌, ◌≢◌, ℕ, ◌<◌, ◌≤◌, ◌⊎◌, false, List, [], ◌∷◌, ◌++◌, Some, length}
use Rattle.std.specs.List.{AllByRecursion}
use Rattle.sw_graph.specs.declared.function.Function.{Function}
use Rattle.sw_graph.specs.declared.instr.Block.{Block}
use Rattle.sw_graph.specs.declared.instr.Instr.{Instr}
use Rattle.sw_graph.specs.declared.instr.Last.{Last}
use Rattle.sw_lower_plans.specs.Plan.{Numbers, var_in}
use Rattle.sw_lower_plans.specs.Run.{IsGoing, Making, instrs_at, last_at}
use Rattle.sw_lower_plans.specs.declared.bound.Bound.{Bound}
use Rattle.sw_lower_run_facts.specs.Made.{index}
use Rattle.sw_spots.specs.Spots.{Spot}

-- the spot at which code goes on, with temporaries in these registers
abbrev pub spot_of : Making → List ℕ → Spot
spot_of s temps = record { block = s.here; index = index s; vars = s.vars; temps = temps }

-- a block has the same instructions among the first and the second blocks, and the same last one
pub record IsSame (b : ℕ) (blocks others : List Block) : Type 0 where
  pub instrs : instrs_at b others ≡ instrs_at b blocks
  pub ends : last_at b others ≡ last_at b blocks

-- the instructions of a block are the first of those that it has among the second blocks
abbrev pub Grows : ℕ → List Block → List Block → Type 0
Grows b blocks others = (rest : List Instr) × (instrs_at b others ≡ instrs_at b blocks ++ rest)

-- Code led from s to t, without too many points, in its own blocks and in new ones. Other blocks are as
-- they were.
pub record WentIn (Own : ℕ → Type 0) (s t : Making) : Type 0 where
  pub fits : s.over ≡ false
  pub going : IsGoing t
  pub number : t.number ≡ s.number
  pub regs : length s.made.regs ≤ length t.made.regs
  pub blocks : length s.made.blocks ≤ length t.made.blocks
  pub there : Own t.here ⊎ (length s.made.blocks ≤ t.here)
  pub grows : (b : ℕ) → Grows b s.made.blocks t.made.blocks
  pub same : (b : ℕ) → b < length s.made.blocks → (Own b → ⊥)
      → IsSame b s.made.blocks t.made.blocks

-- The block that goes on is code's own.
abbrev pub Went : Making → Making → Type 0
Went s t = WentIn (λ b. b ≡ s.here) s t

-- The finished function has what was made from s to t. The block that went on at s, and each that was
-- made later, is as it is at t, but for the one that goes on there.
pub record IsFinal (f : Function) (s t : Making) : Type 0 where
  pub regs : length t.made.regs ≤ length f.regs
  pub blocks : length t.made.blocks ≤ length f.blocks
  pub grows : (b : ℕ) → Grows b t.made.blocks f.blocks
  pub ended : (b : ℕ) → (b ≡ s.here) ⊎ (length s.made.blocks ≤ b) → b < length t.made.blocks
      → b ≢ t.here → IsSame b t.made.blocks f.blocks

-- the block that goes on gets a last instruction, and another one goes on
pub record Turned (s : Making) (how : Last) (next : ℕ) (t : Making) : Type 0 where
  pub made : next < length s.made.blocks
  pub here : t.here ≡ next
  pub vars : t.vars ≡ s.vars
  pub over : t.over ≡ s.over
  pub number : t.number ≡ s.number
  pub regs : t.made.regs ≡ s.made.regs
  pub count : length t.made.blocks ≡ length s.made.blocks
  pub instrs : (b : ℕ) → instrs_at b t.made.blocks ≡ instrs_at b s.made.blocks
  pub lasts : (b : ℕ) → b ≢ s.here → last_at b t.made.blocks ≡ last_at b s.made.blocks
  pub ended : last_at s.here t.made.blocks ≡ how

-- one of some numbers, and that none of them stands twice
abbrev pub IsOne : List ℕ → ℕ → Type 0
IsOne [] n = ⊥
IsOne (one ∷ more) n = (n ≡ one) ⊎ IsOne more n

abbrev pub AreOnce : List ℕ → Type 0
AreOnce [] = Unit {0}
AreOnce (one ∷ more) = (IsOne more one → ⊥) × AreOnce more

-- Blocks were made in which no code has gone on yet.
pub record ArePending (Pending : ℕ → Type 0) (s : Making) : Type 0 where
  pub apart : (b : ℕ) → Pending b → b ≢ s.here
  pub below : (b : ℕ) → Pending b → b < length s.made.blocks
  pub empty : (b : ℕ) → Pending b → instrs_at b s.made.blocks ≡ []

-- the registers are among the first, as many as a count
abbrev pub AreBelow : ℕ → List ℕ → Type 0
AreBelow count temps = AllByRecursion (λ r. r < count) temps

-- What is so where code begins: variables and temporaries have registers, and no two variables have
-- the same one.
pub record IsReady (numbers : Numbers) (s : Making) (temps : List ℕ) : Type 0 where
  pub going : IsGoing s
  pub number : s.number ≡ numbers
  pub temporaries : AreBelow (length s.made.regs) temps
  pub variables : (key : ℕ) (bound : Bound) → var_in key s.vars ≡ Some bound
      → bound.reg < length s.made.regs
  pub apart : (key other : ℕ) (bound one : Bound) → var_in key s.vars ≡ Some bound
      → var_in other s.vars ≡ Some one → one.reg ≡ bound.reg → other ≡ key
