-- An index of the targets of jobs, by which the race that a step brings in is found without a look
-- at the other jobs.
use Rattle.std.specs.Prelude.{◌≡◌, ℕ, Bool, true, IsTrue, ◌&&◌, ◌||◌, Option, Some, None, List, map}
use Rattle.std.specs.Prelude.{slice_get, slice_set, length, nat_lt, [], ◌∷◌, ◌++◌, if◌then◌else◌}
use Rattle.indexmap.specs.IndexMap.{IndexMap}
use Rattle.sw_graph.specs.declared.graph.Graph.{Graph}
use Rattle.sw_value.specs.declared.race.Place.{Place}
use Rattle.sw_value.specs.declared.race.Race.{Race}
use Rattle.sw_value.specs.declared.state.State.{State}
use Rattle.sw_value.specs.Racing.{Racing, IsLeastRace}
use Rattle.sw_value.specs.Reach.{step_of}
use Rattle.sw_race.specs.declared.target.Target.{Target}
use Rattle.sw_race.specs.declared.uses.Uses.{Uses}
use Rattle.sw_race.specs.Target.{job_target}
use Rattle.sw_race.specs.Uses.{uses_in, uses_of}
use Rattle.sw_race.specs.With.{is_same_place}

-- whether two targets are one location, and one of them writes
abbrev pub are_clashing : Target → Target → Bool
are_clashing a b = is_same_place a.place b.place && (a.writes || b.writes)

-- the targets of no two jobs clash
pub record IsClear (targets : List (Option Target)) : Type 0 where
  pub one : (j k : ℕ) (a b : Target) → slice_get targets j ≡ Some (Some a)
      → slice_get targets k ≡ Some (Some b) → IsTrue (are_clashing a b) → j ≡ k

-- What an index keeps beside the targets: how often each location is among them, and a mark that is
-- there only where no two clash.
pub record IsIndexed {S : Type 0} (table : IndexMap Place Uses S) (clear : Bool)
    (targets : List (Option Target)) : Type 0 where
  pub counts : (p : Place) → uses_in table p ≡ uses_of p targets
  pub is_clear : clear ≡ true → IsClear targets

-- the targets, with one more job without target at the end if there are more jobs than targets
abbrev pub grown : ℕ → List (Option Target) → List (Option Target)
grown jobs targets = if nat_lt (length targets) jobs then targets ++ None ∷ [] else targets

-- The targets after a step of job j: there is one more job without target if there are more jobs
-- than targets, and then job j gets its next target. A number past the targets gives no job a
-- target.
abbrev pub kept_up : ℕ → ℕ → Option Target → List (Option Target) → List (Option Target)
kept_up jobs j next targets = slice_set (grown jobs targets) j next

-- an index stands for a state where it has the target of each job, by number
abbrev pub IsIndexOf : Graph → State → List (Option Target) → Type 0
IsIndexOf graph state index = index ≡ map (job_target graph) state.jobs

-- The index stands for a state from which the item j leads to this one.
pub record StandsBefore (graph : Graph) (index : List (Option Target)) (state : State) (j : ℕ)
    : Type 0 where
  pub before : State
  pub stands : IsIndexOf graph before index
  pub steps : state ≡ step_of graph before j

-- what is found among all jobs: the least race, or none where the state is not racing
abbrev pub IsFoundOfAll : Graph → State → Option Race → Type 0
IsFoundOfAll graph state None = Racing graph state → ⊥
IsFoundOfAll graph state (Some race) = IsLeastRace graph state race
