-- Data races: what SE-0306 calls a data race, on the machine.
use Rattle.std.specs.Prelude.{◌≡◌, ◌<◌, ◌≤◌, ◌⊎◌, Some, ◌||◌, IsTrue}
use Rattle.sw_graph.specs.declared.graph.Graph.{Graph}
use Rattle.sw_value.specs.declared.race.Access.{Access}
use Rattle.sw_value.specs.declared.race.Race.{Race}
use Rattle.sw_value.specs.declared.state.State.{State}
use Rattle.sw_value.specs.Access.{next_access}

-- two accesses are of one location, and one of them writes
pub record IsConflict (first second : Access) : Type 0 where
  pub same : first.place ≡ second.place
  pub writes : IsTrue (first.writes || second.writes)

-- two jobs, the one with the lower number first, are about to make accesses that conflict
pub record IsRace (graph : Graph) (state : State) (race : Race) : Type 0 where
  pub order : race.first.job < race.second.job
  pub first_next : next_access graph state race.first.job ≡ Some race.first
  pub second_next : next_access graph state race.second.job ≡ Some race.second
  pub conflict : IsConflict race.first race.second

-- some two jobs race
abbrev pub Racing : Graph → State → Type 0
Racing graph state = (race : Race) × IsRace graph state race

-- the first job of one race has a lower number, or it is the same and the second has no higher one
abbrev pub IsNoLater : Race → Race → Type 0
IsNoLater a b = (a.first.job < b.first.job)
    ⊎ ((a.first.job ≡ b.first.job) × (a.second.job ≤ b.second.job))

-- of several races the one with the least first job, and then the least second job
pub record IsLeastRace (graph : Graph) (state : State) (race : Race) : Type 0 where
  pub is_race : IsRace graph state race
  pub least : (other : Race) → IsRace graph state other → IsNoLater race other
