use Rattle.sw_verdict.specs.Phases.{phases_to_size}
use Rattle.sw_verdict.proofs.GraphsExist.{some_graph}
use Rattle.sw_verdict.proofs.LoweredTexts.{accepted_to_size, decided_to_size}
use Rattle.sw_verdict.proofs.OneLowered.{one_graph_of}
use Rattle.sw_verdict.proofs.Verdicts.{never_both}
use Rattle.sw_verdict.proofs.laws.texts_have_one_graph.Goals as goal

pub returns : goal.returns
returns c = record {
  decided = decided_to_size;
  never_both = λ rule. never_both rule phases_to_size;
  accepted = accepted_to_size;
  some_graph = some_graph;
  one_graph = one_graph_of;
}
