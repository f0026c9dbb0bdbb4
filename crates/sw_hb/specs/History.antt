-- What is kept of a list of events, and what it means.
use Rattle.std.specs.Prelude.{◌≡◌, ℕ, ◌+◌, ◌<◌, ◌^◌, Option, Some, None, List, [], ◌∷◌, ◌++◌, length}
use Rattle.std.specs.Prelude.{IfSome}
use Rattle.sw_value.specs.declared.race.Access.{Access}
use Rattle.sw_value.specs.Transition.{Transition}
use Rattle.sw_before.specs.Clocks.{clocks_of}
use Rattle.sw_before.specs.Unordered.{AreNamed}
use Rattle.sw_clocks.specs.declared.links.Links.{Links}
use Rattle.sw_clocks.specs.Links.{links_of, HasFewJobs}
use Rattle.sw_clocks.specs.Rows.{clocks_in, HasRoom}
use Rattle.sw_hb.specs.declared.entries.Made.{Made}
use Rattle.sw_hb.specs.declared.history.History.{History}
use Rattle.sw_hb.specs.Events.{accesses_in, IsFirstPair}
use Rattle.sw_hb.specs.Latest.{HasEntry}
use Rattle.sw_hb.specs.Table.{entries_at, IsTableOf}

-- the history of a list of events
pub record IsHistory (events : List Transition) (history : History) : Type 0 where
  pub clocks_are : clocks_in history.clocks ≡ clocks_of events
  pub table_is : IsTableOf events history.table
  pub first_is : IsFirstPair events history.first
  pub accesses_are : history.accesses ≡ accesses_in events

-- there is an entry for the access, if there is one
abbrev pub HasRoomForAccess : History → Option Access → Type 0
HasRoomForAccess history access =
    IfSome access (λ a. HasEntry (entries_at history.table a.place) a.job)

-- there is room for an event with these links and this access
abbrev pub HasRoomFor : History → Links → Option Access → Type 0
HasRoomFor history links access =
    HasRoom history.clocks links × HasRoomForAccess history access

-- There is room for the event, the next one after a list of few events.
pub record IsNext (history : History) (links : Links) (access : Option Access) : Type 0 where
  pub events : List Transition
  pub event : Transition
  pub is_history : IsHistory events history
  pub links_are : links_of event ≡ links
  pub access_is : event.accesses ≡ access
  pub named : AreNamed (events ++ event ∷ [])
  pub few_events : length events + 1 < 2 ^ 32
  pub few_jobs : HasFewJobs links
  pub has_room : HasRoomFor history links access

-- the first pair after an event with the access b, where this access was found for it
abbrev pub found_first : Option (Access × Access) → Access → Option Access
    → Option (Access × Access)
found_first (Some pair) b found = Some pair
found_first None b None = None
found_first None b (Some a) = Some (a, b)

-- an access of the next event, where a clock counts the events of its job before it
abbrev pub ranked : (ℕ → ℕ) → Access → Made
ranked clock access = record { rank = clock access.job + 1; access = access }
