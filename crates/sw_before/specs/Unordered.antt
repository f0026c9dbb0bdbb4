-- Conflicting accesses of which neither happens before the other.
use Rattle.std.specs.Prelude.{◌≡◌, ◌≢◌, ℕ, ◌<◌, ◌≤◌, Some, List, slice_get}
use Rattle.sw_value.specs.declared.race.Access.{Access}
use Rattle.sw_value.specs.Racing.{IsConflict}
use Rattle.sw_value.specs.Transition.{Transition}
use Rattle.sw_before.specs.Before.{Before}

-- the event at p makes the access
pub record AccessesAt (events : List Transition) (p : ℕ) (access : Access) : Type 0 where
  pub event : Transition
  pub is_event : slice_get events p ≡ Some event
  pub makes : event.accesses ≡ Some access

-- each access is one of its event's job
abbrev pub AreNamed : List Transition → Type 0
AreNamed events = (p : ℕ) (t : Transition) (access : Access) → slice_get events p ≡ Some t
    → t.accesses ≡ Some access → access.job ≡ t.job

-- The accesses at p and at q, the later one, are of two jobs and conflict, and the first doesn't
-- happen before the second.
pub record IsUnordered (events : List Transition) (p q : ℕ) (a b : Access) : Type 0 where
  pub earlier : p < q
  pub first : AccessesAt events p a
  pub second : AccessesAt events q b
  pub jobs : a.job ≢ b.job
  pub conflict : IsConflict a b
  pub free : ¬ (Before events p q)

-- no two accesses are unordered
abbrev pub AreOrdered : List Transition → Type 0
AreOrdered events = (p q : ℕ) (a b : Access) → ¬ (IsUnordered events p q a b)

-- The second is the least event with an earlier access to which it is unordered. Of the jobs that
-- made such an access the first is of the least, and of that job's it is the latest.
pub record IsFirstUnordered (events : List Transition) (a b : Access) : Type 0 where
  pub p : ℕ
  pub q : ℕ
  pub is : IsUnordered events p q a b
  pub least : (i j : ℕ) (c d : Access) → IsUnordered events i j c d → q ≤ j
  pub job : (i : ℕ) (c d : Access) → IsUnordered events i q c d → a.job ≤ c.job
  pub latest : (i : ℕ) (c d : Access) → IsUnordered events i q c d → c.job ≡ a.job → i ≤ p
