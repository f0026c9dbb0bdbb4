use Rattle.sw_typing_facts.proofs.Said.Once.{one_meaning, one_type}
use Rattle.sw_typing_facts.proofs.laws.keys_have_one_type_and_one_meaning.Goals as goal

pub returns-clause-types : goal.returns-clause-types
returns-clause-types c = one_type

pub returns-clause-meanings : goal.returns-clause-meanings
returns-clause-meanings c = one_meaning
