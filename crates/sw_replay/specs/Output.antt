-- What comes of a list of items: the lines that they print, and how the machine stands after them.
use Rattle.std.specs.Prelude.{◌≡◌, ℕ, Bool, Option, Some, None, List, [], ◌∷◌, ◌++◌}
use Rattle.std.specs.Prelude.{length, count_by, is_some}
use Rattle.sw_graph.specs.declared.graph.Graph.{Graph}
use Rattle.sw_value.specs.declared.job.Job.{Job}
use Rattle.sw_value.specs.declared.state.State.{State}
use Rattle.sw_value.specs.declared.state.TrapKind.{TrapKind}
use Rattle.sw_value.specs.Job.{ended_with}
use Rattle.sw_value.specs.Start.{start_of}
use Rattle.sw_value.specs.Reach.{step_of, reach}
use Rattle.sw_step.specs.declared.event.Event.{Event}
use Rattle.sw_step.specs.declared.event.Event.TheVariants.{Printed}
use Rattle.sw_step.specs.Event.{event_of}
use Rattle.sw_replay.specs.declared.output.End.{End}
use Rattle.sw_replay.specs.declared.output.End.TheVariants.{Ran, Trapped}
use Rattle.sw_replay.specs.declared.output.Output.{Output}

-- the line of an event: that of a Print, or none
abbrev pub line_of : Event → List ℕ
line_of (Printed line) = line
line_of _ = []

-- the lines that items print from a state on, one after the other
abbrev pub lines_from : Graph → State → List ℕ → List ℕ
lines_from graph state [] = []
lines_from graph state (item ∷ items) =
    line_of (event_of graph state item) ++ lines_from graph (step_of graph state item) items

-- the lines that a program prints under a list of items
unfoldable pub lines_of : Graph → List ℕ → List ℕ
lines_of graph items = lines_from graph (start_of graph) items

-- The items lead to the state, and print these lines.
pub record IsPlayed (graph : Graph) (items : List ℕ) (state : State) (lines : List ℕ) : Type 0 where
  pub state_is : state ≡ reach graph items
  pub lines_are : lines ≡ lines_of graph items

abbrev pub end_by : Option (TrapKind × ℕ) → End
end_by None = Ran
end_by (Some trap) = Trapped trap.0 trap.1

-- whether the machine has run, or what halted it
abbrev pub end_of : State → End
end_of state = end_by state.halted

-- whether a job has ended
unfoldable pub has_ended : Job → Bool
has_ended job = is_some (ended_with job.status)

-- how many jobs have ended
abbrev pub ended_in : State → ℕ
ended_in state = count_by has_ended state.jobs

-- how many jobs there are
abbrev pub jobs_in : State → ℕ
jobs_in state = length state.jobs

-- what comes of items that led to a state and printed these lines
abbrev pub output_by : State → List ℕ → Output
output_by state lines = record {
  lines = lines;
  end = end_of state;
  ended = ended_in state;
  jobs = jobs_in state;
}

-- what comes of a list of items, all of which are taken
abbrev pub output_of : Graph → List ℕ → Output
output_of graph items = output_by (reach graph items) (lines_of graph items)
