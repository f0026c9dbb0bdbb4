-- The work of the solver: how many edges there are, and what its parts change.
use Rattle.std.specs.Prelude.{◌≡◌, ℕ, zero, suc, ◌+◌, ◌*◌, ◌≤◌, Bool, false, cond, List, [], ◌∷◌}
use Rattle.std.specs.Prelude.{length, Option, None, Some, IsSome, IfSome, Contains, sum_by, ◌⊎◌}
use Rattle.sw_solve.specs.Annotation.{value_at, IsBelow, IsAtMost, IsAtMostEverywhere}

-- how many edges lead out of the points below n
abbrev pub edge_count : (ℕ → List ℕ) → ℕ → ℕ
edge_count successors zero = 0
edge_count successors (suc n) = edge_count successors n + length (successors n)

-- how often a slot has been set or raised, at most
abbrev pub level_of : {X : Type 0} → (X → ℕ) → Option X → ℕ
level_of rank None = 0
level_of rank (Some x) = rank x + 1

-- the levels of the slots from point n on, each times the weight of its point
abbrev pub weighed : {X : Type 0} → (X → ℕ) → (ℕ → ℕ) → ℕ → List (Option X) → ℕ
weighed rank weight n [] = 0
weighed rank weight n (o ∷ os) = weight n * level_of rank o + weighed rank weight (suc n) os

-- the points on a list, and how many points there are
pub record Listed : Type 0 where
  pub points : List ℕ
  pub room : ℕ

-- a slot takes a value in: it is the least that is at least both, and `rose` says whether it
-- changed
pub record TakesIn {X : Type 0} (le : X → X → Type 0) (size : X → List ℕ) (rank : X → ℕ)
    (value : X) (old new : Option X) (rose : Bool) : Type 0 where
  pub grown : IsAtMost le old new
  pub reached : IsBelow le value new
  pub least : (z : X) → size z ≡ size value → IsAtMost le old (Some z) → le value z
      → IsAtMost le new (Some z)
  pub sized : IfSome new (λ x. size x ≡ size value)
  pub level : level_of rank old + cond rose 1 0 ≤ level_of rank new
  pub unchanged : rose ≡ false → new ≡ old

-- the slots of the targets take a value in, and each slot that rose is on the list
pub record IsSpread {X : Type 0} (le : X → X → Type 0) (size : X → List ℕ) (rank : X → ℕ)
    (targets : List ℕ) (value : X) (old new : List (Option X))
    (before after : Listed) : Type 0 where
  pub length_same : length new ≡ length old
  pub room_same : after.room ≡ before.room
  pub grown : IsAtMostEverywhere le old new
  pub sized : (p : ℕ) → IfSome (value_at new p) (λ x. size x ≡ size value)
  pub least : (a : List (Option X)) → ((p : ℕ) → IfSome (value_at a p) (λ x. size x ≡ size value))
      → IsAtMostEverywhere le old a
      → ((q : ℕ) → Contains targets q → IsBelow le value (value_at a q))
      → IsAtMostEverywhere le new a
  pub reached : (q : ℕ) → Contains targets q → IsBelow le value (value_at new q)
  pub touched : (p : ℕ) → IsSome (value_at new p) → IsSome (value_at old p) ⊎ Contains targets p
  pub listed : (p : ℕ) → (value_at new p ≡ value_at old p) ⊎ Contains after.points p
  pub kept : (p : ℕ) → Contains before.points p → Contains after.points p
  pub weights : (weight : ℕ → ℕ)
      → sum_by weight after.points + weighed rank weight 0 old ≤ sum_by weight before.points +
      weighed rank weight 0 new

-- a point is visited: what its step makes of its value goes to the points that follow
abbrev pub IsVisited : {X : Type 0} → (X → X → Type 0) → (X → List ℕ) → (X → ℕ)
    → (ℕ → X → X → Type 0) → (ℕ → List ℕ) → ℕ → Option X → List (Option X) → List (Option X)
    → Listed → Listed → Type 0
IsVisited le size rank leads successors p None old new before after = (new ≡ old) × (after ≡ before)
IsVisited {X} le size rank leads successors p (Some x) old new before after =
    (made : X) × leads p x made × (size made ≡ size x)
    × IsSpread le size rank (successors p) made old new before after
