use Rattle.sw_grammar.proofs.ProgramLaws as laws
use Rattle.sw_grammar.proofs.laws.spellings_have_one_meaning.Goals as goal

pub returns-clause-decided : goal.returns-clause-decided
returns-clause-decided c = laws.decided

pub returns-clause-never_both : goal.returns-clause-never_both
returns-clause-never_both c = laws.never_both

pub returns-clause-one_program : goal.returns-clause-one_program
returns-clause-one_program c = laws.one_program

pub returns-clause-one_unexpected : goal.returns-clause-one_unexpected
returns-clause-one_unexpected c = laws.one_unexpected
