use Rattle.sw_text_facts.proofs.Graphs.{text_placed}
use Rattle.sw_text_facts.proofs.laws.texts_have_placed_graphs.Goals as goal

pub returns : goal.returns
returns c = text_placed
