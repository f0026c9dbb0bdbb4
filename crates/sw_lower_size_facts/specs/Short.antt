-- Code that makes few blocks: at most three for each thing that counts in the size of its tree.
use Rattle.std.specs.Prelude.{ℕ, ◌*◌, ◌≤◌, List, length, All}
use Rattle.sw_lower_plans.specs.Plan.{Place}
use Rattle.sw_lower_code.specs.Code.{Code}
use Rattle.sw_lower_code.specs.Whole.{Body}

-- The code makes no more blocks than a number, wherever it begins.
pub record MakesAtMost {A : Type 0} (n : ℕ) (code : Code A) : Type 0 where
  pub few : (place : Place) → length (code.plan place).made ≤ n

-- the code of a tree of a size
abbrev pub IsShort : ℕ → {A : Type 0} → Code A → Type 0
IsShort size code = MakesAtMost (3 * size) code

-- The bodies are no more than a number, and the code of each is short.
pub record AreShort (count size : ℕ) (bodies : List Body) : Type 0 where
  pub few : length bodies ≤ count
  pub each : All (λ (body : Body). IsShort size body.code) bodies
