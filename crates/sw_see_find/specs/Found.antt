-- What a search for a race comes to.
use Rattle.std.specs.Prelude.{◌≡◌, ℕ, List, IsSome}
use Rattle.sw_graph.specs.declared.graph.Graph.{Graph}
use Rattle.sw_replay.specs.declared.output.Replay.{Replay}
use Rattle.sw_replay.specs.Items.{IsItems}
use Rattle.sw_replay.specs.Replay.{IsReplay}
use Rattle.sw_see_find.specs.declared.finding.Found.{Found}
use Rattle.sw_see_find.specs.declared.finding.Found.TheVariants.{Nothing, Race}
use Rattle.sw_see_find.specs.declared.finding.TheConstants.{MOST_TRIES}

-- the text is that of a schedule whose replay meets a race
pub record RacesBy (graph : Graph) (schedule : List ℕ) : Type 0 where
  pub items : List ℕ
  pub are_items : IsItems schedule items
  pub replay : Replay
  pub is_replay : IsReplay graph items replay
  pub meets_race : IsSome replay.race

-- A schedule is found by which the graph races. Otherwise this many were tried, and nothing is said
-- of others.
abbrev pub IsFound : Graph → Found → Type 0
IsFound graph (Race schedule) = RacesBy graph schedule
IsFound graph (Nothing tries) = tries ≡ MOST_TRIES
