-- The step of a point, and its laws.
use Rattle.std.specs.Prelude.{ℕ, List}
use Rattle.sw_partition.specs.Regions.{Regions, IsWithin, IsSameState}
use Rattle.sw_partition.specs.Effects.{IsBlank, IsJoined, IsGiven}
use Rattle.sw_partition.specs.Laws.{within_trans, same_within}
use Rattle.sw_partition.specs.Monotone.{join_monotone, give_monotone}

-- a copy is made, x and y are joined in it, and the class of x is given away at the site
pub record IsStep (x y site : ℕ) (before after : Regions) : Type 0 where
  pub copied : Regions
  pub joined : Regions
  pub is_copy : IsSameState before copied
  pub is_joined : IsJoined x y copied joined
  pub is_given : IsGiven x site joined after

pub step_monotone : (x y site : ℕ) (a b c d : Regions) → IsWithin a b → IsStep x y site a c
    → IsStep x y site b d → IsWithin c d
step_monotone x y site a b c d below first second =
    let copies : IsWithin first.copied second.copied =
    within_trans first.copied a second.copied (same_within a first.copied first.is_copy).1
    (within_trans a b second.copied below (same_within b second.copied second.is_copy).0) in
    give_monotone x site first.joined second.joined c d
    (join_monotone x y first.copied second.copied first.joined second.joined copies
    first.is_joined second.is_joined) first.is_given second.is_given

pub blank_within : (elements : ℕ) (sites : List ℕ) (a b : Regions) → IsBlank elements sites a
    → IsBlank elements sites b → IsWithin a b
blank_within elements sites a b first second = record {
  together = λ x y t. (second.alone x y).1 ((first.alone x y).0 t);
  pairs = λ x site has. absurd (first.no_pairs x site has);
}
