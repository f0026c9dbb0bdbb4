-- What entries of a location mean: of each job that accessed it, its latest read and write.
use Rattle.std.specs.Prelude.{◌≡◌, ℕ, ◌≤◌, Bool, true, false, Option, Some, None, List, Contains}
use Rattle.sw_value.specs.declared.race.Access.{Access}
use Rattle.sw_value.specs.declared.race.Place.{Place}
use Rattle.sw_value.specs.Transition.{Transition}
use Rattle.sw_before.specs.Clocks.{rank_of}
use Rattle.sw_before.specs.Unordered.{AccessesAt}
use Rattle.sw_hb.specs.declared.entries.Made.{Made}
use Rattle.sw_hb.specs.declared.entries.Latest.{Latest}

-- the event at p accesses a location for a job, and writes it or reads it
pub record IsOfKind (events : List Transition) (job : ℕ) (place : Place) (writes : Bool) (p : ℕ)
    (a : Access) : Type 0 where
  pub there : AccessesAt events p a
  pub job_is : a.job ≡ job
  pub place_is : a.place ≡ place
  pub writes_is : a.writes ≡ writes

-- no later event does so
pub record IsLast (events : List Transition) (job : ℕ) (place : Place) (writes : Bool)
    (made : Made) : Type 0 where
  pub position : ℕ
  pub is : IsOfKind events job place writes position made.access
  pub rank_is : made.rank ≡ rank_of job events position
  pub last : (p : ℕ) (a : Access) → IsOfKind events job place writes p a → p ≤ position

abbrev pub IsLastOf : List Transition → ℕ → Place → Bool → Option Made → Type 0
IsLastOf events job place writes None =
    (p : ℕ) (a : Access) → ¬ (IsOfKind events job place writes p a)
IsLastOf events job place writes (Some made) = IsLast events job place writes made

-- an entry has the last read of its job, and its last write
pub record IsLatest (events : List Transition) (place : Place) (latest : Latest) : Type 0 where
  pub read : IsLastOf events latest.job place false latest.read
  pub write : IsLastOf events latest.job place true latest.write

-- a job has an entry
abbrev pub HasEntry : List Latest → ℕ → Type 0
HasEntry entries job = (latest : Latest) × Contains entries latest × (latest.job ≡ job)

-- each entry is right, and each job that accessed the location has one
pub record AreLatest (events : List Transition) (place : Place) (entries : List Latest)
    : Type 0 where
  pub each : (latest : Latest) → Contains entries latest → IsLatest events place latest
  pub all : (p : ℕ) (a : Access) → AccessesAt events p a → a.place ≡ place
      → HasEntry entries a.job
