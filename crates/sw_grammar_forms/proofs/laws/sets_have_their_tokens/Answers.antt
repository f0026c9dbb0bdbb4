use Rattle.sw_grammar_forms.proofs.KindSets as kinds
use Rattle.sw_grammar_forms.proofs.SetLaws as sets
use Rattle.sw_grammar_forms.proofs.laws.sets_have_their_tokens.Goals as goal

pub returns-clause-quoted : goal.returns-clause-quoted
returns-clause-quoted c = sets.has-quoted

pub returns-clause-one_of : goal.returns-clause-one_of
returns-clause-one_of c = kinds.has-one_of

pub returns-clause-standing : goal.returns-clause-standing
returns-clause-standing c = kinds.has-standing

pub returns-clause-word : goal.returns-clause-word
returns-clause-word c = sets.has-word

pub returns-clause-integer : goal.returns-clause-integer
returns-clause-integer c = sets.has-integer

pub returns-clause-attribute : goal.returns-clause-attribute
returns-clause-attribute c = kinds.has-attribute

pub returns-clause-first_only : goal.returns-clause-first_only
returns-clause-first_only c = sets.has-first_only_is

pub returns-clause-not_first : goal.returns-clause-not_first
returns-clause-not_first c = sets.has-not_first_is
