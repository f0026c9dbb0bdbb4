use Rattle.sw_grammar.proofs.ProgramLaws as laws
use Rattle.sw_grammar.proofs.laws.spellings_have_a_depth.Goals as goal

pub returns-clause-decided : goal.returns-clause-decided
returns-clause-decided c = laws.decided_within

pub returns-clause-never_unexpected : goal.returns-clause-never_unexpected
returns-clause-never_unexpected c = laws.never_unexpected

pub returns-clause-never_too_deep : goal.returns-clause-never_too_deep
returns-clause-never_too_deep c = laws.never_too_deep

pub returns-clause-one_program : goal.returns-clause-one_program
returns-clause-one_program c = laws.one_program_within

pub returns-clause-one_first_unexpected : goal.returns-clause-one_first_unexpected
returns-clause-one_first_unexpected c = laws.one_first_unexpected

pub returns-clause-one_too_deep : goal.returns-clause-one_too_deep
returns-clause-one_too_deep c = laws.one_too_deep

pub returns-clause-one_fault : goal.returns-clause-one_fault
returns-clause-one_fault c = laws.one_fault
