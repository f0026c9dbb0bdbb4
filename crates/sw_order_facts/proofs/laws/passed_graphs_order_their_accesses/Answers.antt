use Rattle.sw_order_facts.proofs.Passed.{passed_ordered}
use Rattle.sw_order_facts.proofs.laws.passed_graphs_order_their_accesses.Goals as goal

pub returns : goal.returns
returns c = passed_ordered
