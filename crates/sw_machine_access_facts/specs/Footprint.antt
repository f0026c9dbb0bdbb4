-- What the next access of a job reads and writes.
use Rattle.std.specs.Prelude.{◌≡◌, ℕ, false, IsTrue, Option, IsSomeAnd}
use Rattle.sw_graph.specs.declared.graph.Graph.{Graph}
use Rattle.sw_value.specs.declared.race.Access.{Access}
use Rattle.sw_value.specs.declared.race.Place.{Place}
use Rattle.sw_value.specs.declared.state.State.{State}
use Rattle.sw_value.specs.Access.{next_access}

-- the access, if there is one, reads the place
abbrev pub IsReadOf : Place → Option Access → Type 0
IsReadOf place next = IsSomeAnd next (λ access. (access.place ≡ place) × (access.writes ≡ false))

-- the access, if there is one, writes the place
abbrev pub IsWriteOf : Place → Option Access → Type 0
IsWriteOf place next = IsSomeAnd next (λ access. (access.place ≡ place) × IsTrue access.writes)

-- the next access of job j reads the place
abbrev pub Reads : Graph → State → ℕ → Place → Type 0
Reads graph state j place = IsReadOf place (next_access graph state j)

-- the next access of job j writes the place
abbrev pub Writes : Graph → State → ℕ → Place → Type 0
Writes graph state j place = IsWriteOf place (next_access graph state j)
