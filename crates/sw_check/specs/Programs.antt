-- A program that passes the phases by which it is judged.
use Rattle.std.specs.Prelude.{ℕ, List, map, string_bytes, Result, Ok, Err}
use Rattle.sw_graph.specs.declared.graph.Graph.{Graph}
use Rattle.sw_check_parts.specs.declared.stop.Stop.{Stop}
use Rattle.sw_verdict.specs.declared.judging.NamedGraph.{NamedGraph}

-- its graph, and the names of its global actors, by number
pub record Passed : Type 0 where
  pub graph : Graph
  pub actors : List (List ℕ)

-- what contracts see of a graph with names
abbrev pub seen_graph : NamedGraph → Passed
seen_graph made = record { graph = made.graph; actors = map string_bytes made.actors }

-- what they see of the result of a function that judges
abbrev pub seen_result : Result NamedGraph Stop → Result Passed Stop
seen_result (Ok made) = Ok (seen_graph made)
seen_result (Err stop) = Err stop
