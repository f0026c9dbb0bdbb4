use Rattle.sw_lower_placed_facts.proofs.Graphs.Keeping.{clean_graph}
use Rattle.sw_lower_placed_facts.proofs.laws.graphs_are_clean.Goals as goal

pub returns : goal.returns
returns c = clean_graph
