use Rattle.sw_graph.proofs.StraightLemmas.{straight_graph}
use Rattle.sw_graph.proofs.laws.straight_graphs_fit.Goals as goal

pub returns : goal.returns
returns c = λ shapes globals functions entry starts is. straight_graph is
