-- Annotations of the points of a flow: which are closed, and which is at most which.
use Rattle.std.specs.Prelude.{◌≡◌, ℕ, List, Option, None, Some, slice_index_or, Contains, IfSome}

-- what an annotation has at a point: nothing out of range
abbrev pub value_at : {X : Type 0} → List (Option X) → ℕ → Option X
value_at a p = slice_index_or a p None

-- something stands there, and x is at most that
abbrev pub IsBelow : {X : Type 0} → (X → X → Type 0) → X → Option X → Type 0
IsBelow le x None = ⊥
IsBelow le x (Some y) = le x y

-- the first is at most the second; nothing is at most anything
abbrev pub IsAtMost : {X : Type 0} → (X → X → Type 0) → Option X → Option X → Type 0
IsAtMost le None o = Unit {0}
IsAtMost le (Some x) o = IsBelow le x o

-- at each point the first annotation is at most the second
pub record IsAtMostEverywhere {X : Type 0} (le : X → X → Type 0)
    (a b : List (Option X)) : Type 0 where
  pub each : (p : ℕ) → IsAtMost le (value_at a p) (value_at b p)

-- the step of point p makes of x a value that is at most what stands at each of the points that
-- follow p
pub record IsPassedOn {X : Type 0} (le : X → X → Type 0) (leads : ℕ → X → X → Type 0)
    (successors : ℕ → List ℕ) (a : List (Option X)) (p : ℕ) (x : X) : Type 0 where
  pub made : X
  pub leads_to : leads p x made
  pub below : (q : ℕ) → Contains (successors p) q → IsBelow le made (value_at a q)

-- a closed annotation: it has at point 0 at least a value that enters, and with the value at a
-- point it has at each point that follows at least what the step makes of that value; all values
-- have the flow's size
pub record IsClosed {X : Type 0} (le : X → X → Type 0) (size : X → List ℕ) (facts : List ℕ)
    (enters : X → Type 0) (leads : ℕ → X → X → Type 0) (successors : ℕ → List ℕ)
    (a : List (Option X)) : Type 0 where
  pub sized : (p : ℕ) → IfSome (value_at a p) (λ x. size x ≡ facts)
  pub entry : X
  pub enters_by : enters entry
  pub entered : IsBelow le entry (value_at a 0)
  pub stepped : (p : ℕ) (x : X) → value_at a p ≡ Some x → IsPassedOn le leads successors a p x

-- An annotation that bounds from above: it has at point 0 at least each value that enters, and what
-- the step of a point makes of a value that is at most the one there is at most what stands at each
-- of the points that follow. Each closed annotation is one, since the steps are monotone; that an
-- annotation bounds doesn't say that the steps make anything.
pub record IsBound {X : Type 0} (le : X → X → Type 0) (size : X → List ℕ) (facts : List ℕ)
    (enters : X → Type 0) (leads : ℕ → X → X → Type 0) (successors : ℕ → List ℕ)
    (a : List (Option X)) : Type 0 where
  pub sized : (p : ℕ) → IfSome (value_at a p) (λ x. size x ≡ facts)
  pub entered : (x : X) → enters x → size x ≡ facts → IsBelow le x (value_at a 0)
  pub stepped : (p : ℕ) (x y made : X) → value_at a p ≡ Some y → le x y → size x ≡ facts
      → leads p x made
      → (q : ℕ) → Contains (successors p) q → IsBelow le made (value_at a q)
