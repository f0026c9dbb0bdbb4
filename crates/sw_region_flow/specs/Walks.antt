-- Operations that are done in a copy of a region state, and the tests that fail on the way
-- (SE-0414, SE-0430).
use Rattle.std.specs.Prelude.{◌≡◌, ℕ, ◌⊎◌, Some, None, List, [], ◌∷◌}
use Rattle.sw_breach.specs.declared.Breach.{Breach}
use Rattle.sw_partition.specs.Effects.{IsLeastSite}
use Rattle.sw_partition.specs.Regions.{Regions, size_of, Together, HasSomePair, IsSameState}
use Rattle.sw_breach.specs.declared.codes.TheConstants.{GIVEN_AWAY}
use Rattle.sw_region_ops.specs.Runs.{Applies, Runs}
use Rattle.sw_region_ops.specs.declared.op.Op.{Op}
use Rattle.sw_region_ops.specs.declared.op.Op.TheVariants.{Need, Free, Fresh, Put, Join, Give}

-- the second state has its own tables, and means the same as the first
pub record IsCopy (r copied : Regions) : Type 0 where
  pub same : IsSameState r copied
  pub sized : size_of copied ≡ size_of r

-- what the operations make of a copy of the first state
pub record Walks (ops : List Op) (before after : Regions) : Type 0 where
  pub copied : Regions
  pub is_copy : IsCopy before copied
  pub runs : Runs ops copied after

-- Element x is used at a position, though it was given away: the note is the least site.
pub record IsGivenAway (x at : ℕ) (r : Regions) (breach : Breach) : Type 0 where
  pub site : ℕ
  pub least : IsLeastSite r x site
  pub is : breach ≡ record { code = GIVEN_AWAY; at = at; note = Some site }

-- Element x would be given away at a position. It wasn't before, but it is with `Here`.
pub record IsNotFree (x at code : ℕ) (r : Regions) (breach : Breach) : Type 0 where
  pub not_given : ¬ (HasSomePair r x)
  pub is_here : Together r x 0
  pub is : breach ≡ record { code = code; at = at; note = None }

-- the operation is a test that fails in a state, with this breach
abbrev pub TestFails : Op → Regions → Breach → Type 0
TestFails (Need x at) r breach = IsGivenAway x at r breach
TestFails (Free x at code) r breach = IsGivenAway x at r breach ⊎ IsNotFree x at code r breach
TestFails (Fresh x) r breach = ⊥
TestFails (Put x y) r breach = ⊥
TestFails (Join x y) r breach = ⊥
TestFails (Give x site) r breach = ⊥

-- one of the operations is a test that fails in the state which those before it make
abbrev pub FailsAmong : List Op → Regions → Breach → Type 0
FailsAmong [] r breach = ⊥
FailsAmong (op ∷ ops) r breach =
    TestFails op r breach ⊎ ((made : Regions) × Applies op r made × FailsAmong ops made breach)
