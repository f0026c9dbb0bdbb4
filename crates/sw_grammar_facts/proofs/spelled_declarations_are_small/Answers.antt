use Rattle.sw_grammar_facts.proofs.Sizes.{spelled_are_small}
use Rattle.sw_grammar_facts.proofs.spelled_declarations_are_small.Goals as goal

pub returns : goal.returns
returns c = spelled_are_small
