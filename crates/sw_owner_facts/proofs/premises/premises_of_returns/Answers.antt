use Rattle.sw_owner_facts.proofs.PremiseLemmas.{returned_whole, ended_whole}
use Rattle.sw_owner_facts.proofs.Examples.Returns.{returned_possible, returned_needed, ended_possible}
use Rattle.sw_owner_facts.proofs.Examples.Returns.{ended_needed}
use Rattle.sw_owner_facts.proofs.premises.premises_of_returns.Goals as goal

pub returns-clause-returned_whole : goal.returns-clause-returned_whole
returns-clause-returned_whole c = returned_whole

pub returns-clause-returned_possible : goal.returns-clause-returned_possible
returns-clause-returned_possible c = returned_possible

pub returns-clause-returned_needed : goal.returns-clause-returned_needed
returns-clause-returned_needed c = returned_needed

pub returns-clause-ended_whole : goal.returns-clause-ended_whole
returns-clause-ended_whole c = ended_whole

pub returns-clause-ended_possible : goal.returns-clause-ended_possible
returns-clause-ended_possible c = ended_possible

pub returns-clause-ended_needed : goal.returns-clause-ended_needed
returns-clause-ended_needed c = ended_needed
