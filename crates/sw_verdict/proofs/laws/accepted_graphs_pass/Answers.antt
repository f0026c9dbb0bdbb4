use Rattle.sw_verdict.proofs.Passing.{accepted_passes}
use Rattle.sw_verdict.proofs.laws.accepted_graphs_pass.Goals as goal

pub returns : goal.returns
returns c = accepted_passes
