-- Who owns memory while it is not shared: a job, an actor or a global actor (SE-0306, SE-0316).
use Rattle.std.specs.Prelude.{◌≡◌, ℕ}

-- an actor, by the cell that it lies in, or a global actor, by its number
pub data Actor : Type 0 where
  Instance : (cell : ℕ) → Actor
  GlobalActor : (number : ℕ) → Actor

-- A colour marks memory that one owner may reach. It names its owner: a job has many colours, and
-- each actor has one.
pub data Colour : Type 0 where
  OfJob : (job number : ℕ) → Colour
  OfActor : (actor : Actor) → Colour

-- what a frame runs on: no actor, or this one
pub data Executor : Type 0 where
  Generic : Executor
  On : (actor : Actor) → Executor

-- a colour is owned by the job, or by what the frame runs on
abbrev pub IsOwnedBy : ℕ → Executor → Colour → Type 0
IsOwnedBy job executor (OfJob j n) = j ≡ job
IsOwnedBy job executor (OfActor a) = executor ≡ On a
