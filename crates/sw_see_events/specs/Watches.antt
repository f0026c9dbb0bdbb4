-- A replay that is watched for races, with its events.
use Rattle.std.specs.Prelude.{◌≡◌, ℕ, ◌<◌, ◌≤◌, Option, Some, None, List, length, take}
use Rattle.sw_graph.specs.declared.graph.Graph.{Graph}
use Rattle.sw_replay.specs.Output.{output_of}
use Rattle.sw_replay.specs.Replay.{IsRacingAt}
use Rattle.sw_value.specs.declared.race.Race.{Race}
use Rattle.sw_value.specs.Racing.{IsLeastRace}
use Rattle.sw_value.specs.Reach.{reach}
use Rattle.sw_see_events.specs.Happenings.{happenings}
use Rattle.sw_see_events.specs.declared.watching.Watched.{Watched}

-- `Watches graph items taken race`: of the items these are taken, all of them where no prefix leads
-- to a state that is racing. Otherwise they are the least such prefix, and the race is the least one
-- of that state.
pub data Watches (graph : Graph) (items : List ℕ) : List ℕ → Option Race → Type 0 where
  whole : ((n : ℕ) → ¬ IsRacingAt graph items n) → Watches graph items items None
  raced : (n : ℕ) (race : Race) → n ≤ length items
      → ((k : ℕ) → k < n → ¬ IsRacingAt graph items k)
      → IsLeastRace graph (reach graph (take n items)) race
      → Watches graph items (take n items) (Some race)

-- the events of the items that are taken, and what comes of these
pub record IsWatched (graph : Graph) (items : List ℕ) (watched : Watched) : Type 0 where
  pub taken : List ℕ
  pub watches : Watches graph items taken watched.replay.race
  pub output : watched.replay.output ≡ output_of graph taken
  pub events : watched.happenings ≡ happenings graph taken
