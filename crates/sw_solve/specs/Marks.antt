-- The marks of the points that are on a list.
use Rattle.std.specs.Prelude.{◌≡◌, ℕ, ◌<◌, Bool, true, false, List, length, slice_index_or}
use Rattle.std.specs.Prelude.{Contains}

-- a marked point is on the list, and the list's points have marks
pub record AreMarked (points : List ℕ) (marks : List Bool) : Type 0 where
  pub marked : (q : ℕ) → slice_index_or marks q false ≡ true → Contains points q
  pub in_range : (q : ℕ) → Contains points q → q < length marks
