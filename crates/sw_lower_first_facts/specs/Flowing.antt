-- Code that goes on at its end alone: each other block of it ends, and not with a return.
use Rattle.std.specs.Prelude.{◌≡◌, ℕ, ◌+◌, ◌≤◌, ◌<◌, ◌==◌, ◌⊎◌, Bool, true, false, ◌||◌, List, []}
use Rattle.std.specs.Prelude.{◌∷◌, length}
use Rattle.std.specs.List.{AllByRecursion}
use Rattle.sw_graph.specs.Placed.{IsReturn}
use Rattle.sw_lower_plans.specs.Plan.{Ended, Piece, Place}
use Rattle.sw_lower_code.specs.Code.{Code}

-- whether a block is given a last instruction
abbrev pub ends : ℕ → List Ended → Bool
ends number [] = false
ends number (one ∷ more) = (one.block == number) || ends number more

abbrev pub IsNoReturn : Ended → Type 0
IsNoReturn one = IsReturn one.last → ⊥

-- the block that goes on where a piece of code begins, or one that the piece makes
abbrev pub IsOwn : {A : Type 0} → Place → Piece A → ℕ → Type 0
IsOwn place piece number =
    (number ≡ place.here)
    ⊎ ((place.blocks ≤ number) × (number < place.blocks + length piece.made))

pub record GoesWithoutReturn {A : Type 0} (place : Place) (piece : Piece A) : Type 0 where
  pub lasts : AllByRecursion IsNoReturn piece.lasts
  pub ended : (number : ℕ) → IsOwn place piece number → (number ≡ piece.there → ⊥)
      → ends number piece.lasts ≡ true

-- The code does so wherever it stands.
abbrev pub FlowsWithoutReturn : {A : Type 0} → Code A → Type 0
FlowsWithoutReturn code = (place : Place) → GoesWithoutReturn place (code.plan place)
