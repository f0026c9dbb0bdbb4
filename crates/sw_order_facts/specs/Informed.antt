-- What every state of an accepted program keeps, with its colours and the events so far: who owns
-- memory knows all accesses to it, and who has the name of a cell knows the event that made it.
use Rattle.std.specs.Prelude.{◌≡◌, ◌⊎◌, ◌<◌, ℕ, List, length}
use Rattle.sw_graph.specs.declared.graph.Graph.{Graph}
use Rattle.sw_value.specs.declared.race.Access.{Access}
use Rattle.sw_value.specs.declared.race.Place.{Place}
use Rattle.sw_value.specs.declared.race.Place.TheVariants.{Prop, Global, BoxOf}
use Rattle.sw_value.specs.declared.state.State.{State}
use Rattle.sw_value.specs.Transition.{Transition}
use Rattle.sw_machine_access_facts.specs.Location.{IsLocation}
use Rattle.sw_machine_name_facts.specs.Given.{LiesIn}
use Rattle.sw_machine_name_facts.specs.Names.{FixedNames, JobNames, PlaceNames, ResultNames}
use Rattle.sw_machine_name_facts.specs.Names.{StandsOn}
use Rattle.sw_owner_facts.specs.Colours.{Actor, Colour, OfActor, OfJob}
use Rattle.sw_view_facts.specs.Views.{Colours}
use Rattle.sw_secure_race_facts.specs.Places.{HasColour, IsKept}
use Rattle.sw_before.specs.Unordered.{AccessesAt}
use Rattle.sw_order_facts.specs.Knowing.{ActorKeeps, EndTells, HasMaking, JobKnows, LeadsToCell}
use Rattle.sw_order_facts.specs.Knowing.{MakesCell, OwnerKnows, RunsOn}

-- whose the place is: it lies in a cell with the colour, or is an actor's
abbrev pub IsOfColour : Graph → State → Colours → Place → Colour → Type 0
IsOfColour graph state colours place colour = HasColour colours place colour
    ⊎ ((actor : Actor) × IsKept graph state colours place actor × (colour ≡ OfActor actor))

-- a place in a cell, or a global `var`
abbrev pub IsOwnable : Graph → State → Place → Type 0
IsOwnable graph state (Global g) = IsLocation graph state (Global g)
IsOwnable graph state (Prop c i) = Unit {0}
IsOwnable graph state (BoxOf c) = Unit {0}

pub record IsInformed (graph : Graph) (state : State) (colours : Colours)
    (events : List Transition) : Type 0 where
  -- a cell is made once, and then it is there
  pub once : (k p q : ℕ) → MakesCell events p k → MakesCell events q k → p ≡ q
  pub made : (k p : ℕ) → MakesCell events p k → k < length state.cells
  -- a job that owns memory is there
  pub owners : (place : Place) (j n : ℕ) → IsOfColour graph state colours place (OfJob j n)
      → j < length state.jobs
  -- what was accessed is there
  pub there : (p c : ℕ) (access : Access) → AccessesAt events p access → LiesIn access.place c
      → c < length state.cells
  -- who owns a place knows each access to it
  pub touches : (p : ℕ) (access : Access) (colour : Colour) → AccessesAt events p access
      → IsOfColour graph state colours access.place colour → OwnerKnows state events colour p
  -- and the making of each cell that is named there
  pub stores : (place : Place) (k : ℕ) (colour : Colour) → IsOwnable graph state place
      → PlaceNames state place k → IsOfColour graph state colours place colour
      → HasMaking events (OwnerKnows state events colour) k
  -- a job knows the making of each cell that its registers name, or with its end what it ended with
  pub names : (j k : ℕ) → JobNames state j k → HasMaking events (JobKnows events j) k
  pub results : (j k : ℕ) → ResultNames state j k → HasMaking events (EndTells events j) k
  -- and of each actor on which one of its frames is to run
  pub stands : (j c : ℕ) → StandsOn state j c → HasMaking events (JobKnows events j) c
  -- what never changes of a cell names cells that were made before
  pub fixed : (c k : ℕ) → FixedNames graph state c k → HasMaking events (LeadsToCell events c) k
  -- each job knows the making of each cell that a global `let` names
  pub firsts : (g k j : ℕ) → ¬ IsLocation graph state (Global g)
      → PlaceNames state (Global g) k → j < length state.jobs
      → HasMaking events (JobKnows events j) k
  -- a job that runs on an actor knows all that the actor keeps
  pub runs : (j p : ℕ) (actor : Actor) → RunsOn state j actor → ActorKeeps events actor p
      → JobKnows events j p
