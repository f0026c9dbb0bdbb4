-- Who may take what is a job's in a step of the job: each knows after the step what the job knows.
use Rattle.std.specs.Prelude.{◌≡◌, ◌⊎◌, ℕ, Some}
use Rattle.sw_graph.specs.declared.graph.Graph.{Graph}
use Rattle.sw_value.specs.declared.effect.Act.{Act}
use Rattle.sw_value.specs.declared.race.Place.{Place}
use Rattle.sw_value.specs.declared.state.State.{State}
use Rattle.sw_value.specs.Reach.{step_of}
use Rattle.sw_value.specs.Transition.{made_by}
use Rattle.sw_owner_facts.specs.Colours.{Actor, Instance, Colour, OfJob, OfActor}
use Rattle.sw_view_facts.specs.Views.{Colours}
use Rattle.sw_machine_name_facts.specs.Given.{LiesIn, made_cell}
use Rattle.sw_order_facts.specs.Informed.{IsOfColour}
use Rattle.sw_order_facts.specs.Knowing.{RunsOn}

-- a job holds the colour: it is the job's, or that of the actor on which it runs
abbrev pub IsHolders : State → ℕ → Colour → Type 0
IsHolders state j colour = ((n : ℕ) × (colour ≡ OfJob j n))
    ⊎ ((actor : Actor) × RunsOn state j actor × (colour ≡ OfActor actor))

-- what the job hands over goes to it: it is the job's, that of the job that it makes, that of the
-- actor on which it runs, or that of the actor that it makes
pub data IsTakers (state : State) (j : ℕ) (act : Act) (colour : Colour) : Type 0 where
  own : (n : ℕ) → colour ≡ OfJob j n → IsTakers state j act colour
  heir : (i n : ℕ) → made_by act ≡ Some i → colour ≡ OfJob i n → IsTakers state j act colour
  runner : (actor : Actor) → RunsOn state j actor → colour ≡ OfActor actor
      → IsTakers state j act colour
  maker : (c : ℕ) → made_cell act ≡ Some c → colour ≡ OfActor (Instance c)
      → IsTakers state j act colour

-- the colour of a place after a step: what it was, or a taker's where it was the job's, or a taker's
-- where the place lies in a cell that is made
pub data Takes (graph : Graph) (state : State) (colours : Colours) (j : ℕ) (act : Act)
    (place : Place) (colour : Colour) : Type 0 where
  stays : IsOfColour graph state colours place colour
      → Takes graph state colours j act place colour
  taken : (n : ℕ) → IsOfColour graph state colours place (OfJob j n)
      → IsTakers state j act colour → Takes graph state colours j act place colour
  begins : (c : ℕ) → made_cell act ≡ Some c → LiesIn place c → IsTakers state j act colour
      → Takes graph state colours j act place colour

-- each place has such a colour after the step
abbrev pub AllTake : Graph → State → Colours → ℕ → Act → Colours → Type 0
AllTake graph state colours j act after = (place : Place) (colour : Colour)
    → IsOfColour graph (step_of graph state j) after place colour
    → Takes graph state colours j act place colour
