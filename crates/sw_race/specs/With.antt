-- The race that a job is in.
use Rattle.std.specs.Prelude.{◌≡◌, ◌⊎◌, ◌≤◌, ℕ, ◌==◌, nat_lt, Bool, false, IsTrue, not, ◌&&◌, ◌||◌}
use Rattle.std.specs.Prelude.{Option, Some, None, if◌then◌else◌}
use Rattle.sw_graph.specs.declared.graph.Graph.{Graph}
use Rattle.sw_value.specs.declared.race.Access.{Access}
use Rattle.sw_value.specs.declared.race.Place.{Place}
use Rattle.sw_value.specs.declared.race.Place.TheVariants.{Prop, Global, BoxOf}
use Rattle.sw_value.specs.declared.race.Race.{Race}
use Rattle.sw_value.specs.declared.state.State.{State}
use Rattle.sw_value.specs.Access.{next_access}
use Rattle.sw_value.specs.Racing.{IsRace}

-- a race of job j with another
pub record IsRaceOf (graph : Graph) (state : State) (j : ℕ) (race : Race) : Type 0 where
  pub is_race : IsRace graph state race
  pub takes_part : (race.first.job ≡ j) ⊎ (race.second.job ≡ j)

-- the other job of a race of job j
abbrev pub other_of : ℕ → Race → ℕ
other_of j race = if race.first.job == j then race.second.job else race.first.job

-- of several races of job j that with the least other job
pub record IsLeastRaceOf (graph : Graph) (state : State) (j : ℕ) (race : Race) : Type 0 where
  pub is_race_of : IsRaceOf graph state j race
  pub least : (other : Race) → IsRaceOf graph state j other → other_of j race ≤ other_of j other

-- whether two locations are one
abbrev pub is_same_place : Place → Place → Bool
is_same_place (Prop c i) (Prop d k) = (c == d) && (i == k)
is_same_place (Global g) (Global h) = g == h
is_same_place (BoxOf c) (BoxOf d) = c == d
is_same_place _ _ = false

-- whether two accesses are of different jobs, and conflict
abbrev pub are_rivals : Access → Access → Bool
are_rivals access other =
    not (access.job == other.job)
    && (is_same_place access.place other.place && (access.writes || other.writes))

-- another job is about to make an access that conflicts
pub record IsRival (graph : Graph) (state : State) (access other : Access) : Type 0 where
  pub next : next_access graph state other.job ≡ Some other
  pub rivals : IsTrue (are_rivals access other)

-- the rival with the least job, or none where there is none
abbrev pub IsFirstRival : Graph → State → Access → Option Access → Type 0
IsFirstRival graph state access None = (other : Access) → IsRival graph state access other → ⊥
IsFirstRival graph state access (Some rival) =
    IsRival graph state access rival
    × ((other : Access) → IsRival graph state access other → rival.job ≤ other.job)

-- the race of two accesses: that of the job with the lower number is the first
abbrev pub ordered : Access → Access → Race
ordered access other =
    if nat_lt access.job other.job then record { first = access; second = other }
    else record { first = other; second = access }

-- what is found: the least race of job j, or none where it is in none
abbrev pub IsFound : Graph → State → ℕ → Option Race → Type 0
IsFound graph state j None = (race : Race) → IsRaceOf graph state j race → ⊥
IsFound graph state j (Some race) = IsLeastRaceOf graph state j race
