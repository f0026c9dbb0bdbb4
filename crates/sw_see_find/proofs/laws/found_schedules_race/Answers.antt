use Rattle.std.proofs.Common.{ℕ, List, IsSome}
use Rattle.sw_graph.specs.declared.graph.Graph.{Graph}
use Rattle.sw_replay.specs.declared.output.Replay.{Replay}
use Rattle.sw_replay.specs.Replay.{IsRacingAt, IsReplay, raced, whole}
use Rattle.sw_see_find.proofs.laws.found_schedules_race.Goals as goal

-- a replay that meets a race stops at a state that is racing
at_race : (graph : Graph) (items : List ℕ) (replay : Replay) → IsReplay graph items replay
    → IsSome replay.race → (n : ℕ) × IsRacingAt graph items n
at_race graph items _ (whole calm) is = cc
at_race graph items _ (raced n race within calm least) is = (n, (race, least.is_race))

pub returns : goal.returns
returns c graph schedule races =
    at_race graph races.items races.replay races.is_replay races.meets_race
