-- The replay of a list of items, which is watched for races: it stops at the first state that is
-- racing.
use Rattle.std.specs.Prelude.{ℕ, ◌<◌, ◌≤◌, Some, None, List, length, take}
use Rattle.sw_graph.specs.declared.graph.Graph.{Graph}
use Rattle.sw_value.specs.declared.race.Race.{Race}
use Rattle.sw_value.specs.Racing.{Racing, IsLeastRace}
use Rattle.sw_value.specs.Reach.{reach}
use Rattle.sw_replay.specs.declared.output.Replay.{Replay}
use Rattle.sw_replay.specs.Output.{output_of}

-- the first n of the items lead to a state that is racing
abbrev pub IsRacingAt : Graph → List ℕ → ℕ → Type 0
IsRacingAt graph items n = Racing graph (reach graph (take n items))

-- the replay that takes all items
abbrev pub whole_replay : Graph → List ℕ → Replay
whole_replay graph items = record { output = output_of graph items; race = None }

-- the replay that takes items and stops at a race
abbrev pub stopped_replay : Graph → List ℕ → Race → Replay
stopped_replay graph items race = record { output = output_of graph items; race = Some race }

-- `IsReplay graph items replay`: the replay takes all items where no prefix of them is racing. It
-- stops at the least prefix that is racing, and names the race of that state with the least first
-- job, and then the least second job.
pub data IsReplay (graph : Graph) (items : List ℕ) : Replay → Type 0 where
  whole : ((n : ℕ) → ¬ IsRacingAt graph items n) → IsReplay graph items (whole_replay graph items)
  raced : (n : ℕ) (race : Race) → n ≤ length items → ((k : ℕ) → k < n → ¬ IsRacingAt graph items k)
      → IsLeastRace graph (reach graph (take n items)) race
      → IsReplay graph items (stopped_replay graph (take n items) race)
