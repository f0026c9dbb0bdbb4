use Rattle.sw_owner_facts.proofs.PremiseLemmas.{within_whole, comes_whole, freshened_whole}
use Rattle.sw_owner_facts.proofs.PremiseLemmas.{weakened_whole}
use Rattle.sw_owner_facts.proofs.Examples.Inside.{within_possible, within_needed, comes_possible}
use Rattle.sw_owner_facts.proofs.Examples.Inside.{comes_needed, freshened_possible, freshened_needed}
use Rattle.sw_owner_facts.proofs.Examples.Inside.{weakened_possible, weakened_needed}
use Rattle.sw_owner_facts.proofs.premises.premises_of_changes.Goals as goal

pub returns-clause-within_whole : goal.returns-clause-within_whole
returns-clause-within_whole c = within_whole

pub returns-clause-within_possible : goal.returns-clause-within_possible
returns-clause-within_possible c = within_possible

pub returns-clause-within_needed : goal.returns-clause-within_needed
returns-clause-within_needed c = within_needed

pub returns-clause-comes_whole : goal.returns-clause-comes_whole
returns-clause-comes_whole c = comes_whole

pub returns-clause-comes_possible : goal.returns-clause-comes_possible
returns-clause-comes_possible c = comes_possible

pub returns-clause-comes_needed : goal.returns-clause-comes_needed
returns-clause-comes_needed c = comes_needed

pub returns-clause-freshened_whole : goal.returns-clause-freshened_whole
returns-clause-freshened_whole c = freshened_whole

pub returns-clause-freshened_possible : goal.returns-clause-freshened_possible
returns-clause-freshened_possible c = freshened_possible

pub returns-clause-freshened_needed : goal.returns-clause-freshened_needed
returns-clause-freshened_needed c = freshened_needed

pub returns-clause-weakened_whole : goal.returns-clause-weakened_whole
returns-clause-weakened_whole c = weakened_whole

pub returns-clause-weakened_possible : goal.returns-clause-weakened_possible
returns-clause-weakened_possible c = weakened_possible

pub returns-clause-weakened_needed : goal.returns-clause-weakened_needed
returns-clause-weakened_needed c = weakened_needed
