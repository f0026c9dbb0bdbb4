-- What a step does to names, to cells and to jobs: all that the knowledge of jobs and owners depends on.
use Rattle.std.specs.Prelude.{◌≡◌, ◌⊎◌, ◌<◌, ◌≤◌, ℕ, Some, length}
use Rattle.sw_graph.specs.declared.graph.Graph.{Graph}
use Rattle.sw_value.specs.declared.effect.Act.{Act}
use Rattle.sw_value.specs.declared.race.Place.{Place}
use Rattle.sw_value.specs.declared.state.State.{State}
use Rattle.sw_value.specs.Act.{act_of}
use Rattle.sw_value.specs.Reach.{step_of}
use Rattle.sw_value.specs.Transition.{followed_by, made_by}
use Rattle.sw_machine_let_facts.specs.Lets.{RunsFirst}
use Rattle.sw_machine_name_facts.specs.Given.{ActGives, Fills, IsStepped, Source, made_cell}
use Rattle.sw_machine_name_facts.specs.Names.{FixedNames, JobNames, PlaceNames, ResultNames, StandsOn}

pub record Steps (graph : Graph) (state : State) (j : ℕ) (act : Act) : Type 0 where
  pub acts : act_of graph state j ≡ Some act
  pub there : j < length state.jobs
  -- where the names come from that the act gives
  pub sources : (k : ℕ) → ActGives act k → Source graph state j k
      ⊎ ((ended : ℕ) × (followed_by act ≡ Some ended) × ResultNames state ended k)
  -- what names what after it
  pub jobs : (i k : ℕ) → JobNames (step_of graph state j) i k → JobNames state i k
      ⊎ (IsStepped j act i × (ActGives act k ⊎ (made_cell act ≡ Some k)))
  pub results : (i k : ℕ) → ResultNames (step_of graph state j) i k
      → ResultNames state i k ⊎ ((i ≡ j) × ActGives act k)
  pub executors : (i c : ℕ) → StandsOn (step_of graph state j) i c → StandsOn state i c
      ⊎ (IsStepped j act i × (StandsOn state j c ⊎ ActGives act c))
  pub places : (place : Place) (k : ℕ) → PlaceNames (step_of graph state j) place k
      → PlaceNames state place k ⊎ (ActGives act k × Fills graph state j act place)
  pub fixed : (c k : ℕ) → FixedNames graph (step_of graph state j) c k
      → FixedNames graph state c k ⊎ ((made_cell act ≡ Some c) × ActGives act k)
  -- which cells and jobs there are
  pub cell : (c : ℕ) → made_cell act ≡ Some c
      → (c ≡ length state.cells) × (c < length (step_of graph state j).cells)
  pub job : (i : ℕ) → made_by act ≡ Some i
      → (i ≡ length state.jobs) × (i < length (step_of graph state j).jobs)
  pub cells_stay : length state.cells ≤ length (step_of graph state j).cells
  pub jobs_stay : length state.jobs ≤ length (step_of graph state j).jobs
  pub jobs_come : (i : ℕ) → i < length (step_of graph state j).jobs
      → (i < length state.jobs) ⊎ (made_by act ≡ Some i)
  pub alone : RunsFirst graph state j → (i : ℕ) → i < length state.jobs → i ≡ j
