use Rattle.sw_region_flow.proofs.Passing.{graph_passes, passed_breaches}
use Rattle.sw_region_flow.proofs.laws.graphs_without_breaches_pass.Goals as goal

pub returns : goal.returns
returns c = record { passes = graph_passes; no_breach = passed_breaches }
