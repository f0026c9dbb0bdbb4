use Rattle.sw_region_flow.proofs.Certifying.{certified_passes}
use Rattle.sw_region_flow.proofs.laws.certified_graphs_have_no_breach.Goals as goal

pub returns : goal.returns
returns c = λ graph each. certified_passes graph each
