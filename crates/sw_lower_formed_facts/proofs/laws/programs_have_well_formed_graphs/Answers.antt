use Rattle.sw_lower_formed_facts.proofs.GraphsFit.{graphs_fit}
use Rattle.sw_lower_formed_facts.proofs.laws.programs_have_well_formed_graphs.Goals as goal

pub returns : goal.returns
returns c = graphs_fit
