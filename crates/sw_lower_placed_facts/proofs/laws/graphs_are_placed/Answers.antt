use Rattle.sw_lower_placed_facts.proofs.Graphs.Keeping.{placed_graph}
use Rattle.sw_lower_placed_facts.proofs.laws.graphs_are_placed.Goals as goal

pub returns : goal.returns
returns c = placed_graph
