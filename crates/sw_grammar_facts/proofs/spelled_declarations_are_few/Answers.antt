use Rattle.sw_grammar_facts.proofs.DeclsFew.{spelled_are_few}
use Rattle.sw_grammar_facts.proofs.spelled_declarations_are_few.Goals as goal

pub returns : goal.returns
returns c = spelled_are_few
