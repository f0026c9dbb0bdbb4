-- The accesses of a list of events: how many there are, and the first two that are unordered.
use Rattle.std.specs.Prelude.{ℕ, Option, Some, None, List, count_by, is_some}
use Rattle.sw_value.specs.declared.race.Access.{Access}
use Rattle.sw_value.specs.Transition.{Transition}
use Rattle.sw_before.specs.Unordered.{IsFirstUnordered, AreOrdered}

-- how many events make an access
abbrev pub accesses_in : List Transition → ℕ
accesses_in events = count_by (λ t. is_some t.accesses) events

-- the first unordered pair of the events, or none where their accesses are ordered
abbrev pub IsFirstPair : List Transition → Option (Access × Access) → Type 0
IsFirstPair events None = AreOrdered events
IsFirstPair events (Some pair) = IsFirstUnordered events pair.0 pair.1
