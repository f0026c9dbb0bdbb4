use Rattle.sw_grammar.proofs.TokenSets as sets
use Rattle.sw_grammar.proofs.laws.grammar_sets_have_their_tokens.Goals as goal

pub returns-clause-infix_op : goal.returns-clause-infix_op
returns-clause-infix_op c = sets.has-infix_op

pub returns-clause-prefix_op : goal.returns-clause-prefix_op
returns-clause-prefix_op c = sets.has-prefix_op

pub returns-clause-value_word : goal.returns-clause-value_word
returns-clause-value_word c = sets.has-value_word

pub returns-clause-plain_word : goal.returns-clause-plain_word
returns-clause-plain_word c = sets.has-plain_word

pub returns-clause-at_word : goal.returns-clause-at_word
returns-clause-at_word c = sets.has-at_word

pub returns-clause-plain_at_word : goal.returns-clause-plain_at_word
returns-clause-plain_at_word c = sets.has-plain_at_word
