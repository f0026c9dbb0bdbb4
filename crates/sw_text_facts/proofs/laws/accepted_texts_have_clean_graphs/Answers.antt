use Rattle.sw_text_facts.proofs.Graphs.{accepted_clean, unshared_clean}
use Rattle.sw_text_facts.proofs.laws.accepted_texts_have_clean_graphs.Goals as goal

pub returns-clause-accepted : goal.returns-clause-accepted
returns-clause-accepted c = accepted_clean

pub returns-clause-unshared : goal.returns-clause-unshared
returns-clause-unshared c = unshared_clean
