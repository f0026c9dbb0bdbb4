-- Where code writes, and which blocks it ends: the block that goes on, and blocks that it makes.
use Rattle.std.specs.Prelude.{◌≡◌, ℕ, ◌≤◌, ◌⊎◌}
use Rattle.std.specs.List.{AllByRecursion}
use Rattle.sw_lower_plans.specs.Plan.{Ended, Piece, Place, Written}
use Rattle.sw_lower_code.specs.Code.{Code}

-- The block is a certain one, or none of the first, as many as a count.
abbrev pub IsApart : ℕ → ℕ → ℕ → Type 0
IsApart count own block = (block ≡ own) ⊎ (count ≤ block)

-- Such blocks alone are written into and ended, and such a block goes on.
pub record PieceApart {A : Type 0} (count own : ℕ) (piece : Piece A) : Type 0 where
  pub writes : AllByRecursion (λ (one : Written). IsApart count own one.block) piece.writes
  pub lasts : AllByRecursion (λ (one : Ended). IsApart count own one.block) piece.lasts
  pub there : IsApart count own piece.there

-- Wherever code begins in such a block, its piece is apart.
abbrev pub Apart : {A : Type 0} → ℕ → ℕ → Code A → Type 0
Apart count own code = (place : Place) → count ≤ place.blocks
    → IsApart count own place.here → PieceApart count own (code.plan place)

abbrev pub CodeApart : {A : Type 0} → Code A → Type 0
CodeApart code = (count own : ℕ) → Apart count own code
