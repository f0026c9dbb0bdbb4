-- Happens-before among the events of a run, as detectors of data races define it: the order that
-- jobs, their making, their ends and actors give, whatever else the schedule decides.
use Rattle.std.specs.Prelude.{◌≡◌, ◌≢◌, ℕ, ◌<◌, IsTrue, Some, List, slice_get}
use Rattle.sw_value.specs.declared.executor.Executor.{Executor}
use Rattle.sw_value.specs.declared.executor.Executor.TheVariants.{Generic}
use Rattle.sw_value.specs.Transition.{Transition}
use Rattle.sw_before.specs.Closure.{Closure}

-- The four ways in which an event leads to a later one.
pub data Leads (a b : Transition) : Type 0 where
  -- both are of one job
  goes_on : a.job ≡ b.job → Leads a b
  -- the first makes the job of the second
  makes : a.makes ≡ Some b.job → Leads a b
  -- the first ends a job, and the second is a wake by that end
  ends : IsTrue a.ends → b.follows ≡ Some a.job → Leads a b
  -- the first leaves an actor or a global actor, and the second is a dispatch onto it (SE-0306,
  -- SE-0316)
  leaves : (x : Executor) → x ≢ Generic → a.leaves ≡ Some x → b.enters ≡ Some x → Leads a b

-- the event at p leads to the later one at q
pub record LeadsAt (events : List Transition) (p q : ℕ) : Type 0 where
  pub earlier : p < q
  pub first : Transition
  pub second : Transition
  pub is_first : slice_get events p ≡ Some first
  pub is_second : slice_get events q ≡ Some second
  pub leads : Leads first second

-- the event at p happens before the one at q
abbrev pub Before : List Transition → ℕ → ℕ → Type 0
Before events = Closure (LeadsAt events)
