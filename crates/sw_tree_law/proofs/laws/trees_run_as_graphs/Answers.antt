use Rattle.sw_tree_law.proofs.Texts.{text_events, text_output}
use Rattle.sw_tree_law.proofs.laws.trees_run_as_graphs.Goals as goal

pub returns : goal.returns
returns c = record { events = text_events; output = text_output }
