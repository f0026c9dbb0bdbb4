use Rattle.sw_owner_facts.proofs.PremiseLemmas.{plain_whole, shares_whole, same_whole, weak_whole}
use Rattle.sw_owner_facts.proofs.PremiseLemmas.{strong_whole, make_whole, spawned_whole}
use Rattle.sw_owner_facts.proofs.Examples.Calls.{plain_possible, plain_needed, shares_needed}
use Rattle.sw_owner_facts.proofs.Examples.Calls.{same_possible, same_needed}
use Rattle.sw_owner_facts.proofs.Examples.Crossings.{weak_possible, weak_needed, strong_possible}
use Rattle.sw_owner_facts.proofs.Examples.Crossings.{strong_needed, make_possible, make_needed}
use Rattle.sw_owner_facts.proofs.Examples.Crossings.{spawned_possible, spawned_needed}
use Rattle.sw_owner_facts.proofs.premises.premises_of_calls.Goals as goal

pub returns-clause-plain_whole : goal.returns-clause-plain_whole
returns-clause-plain_whole c = plain_whole

pub returns-clause-plain_possible : goal.returns-clause-plain_possible
returns-clause-plain_possible c = plain_possible

pub returns-clause-plain_needed : goal.returns-clause-plain_needed
returns-clause-plain_needed c = plain_needed

pub returns-clause-shares_whole : goal.returns-clause-shares_whole
returns-clause-shares_whole c = shares_whole

pub returns-clause-shares_needed : goal.returns-clause-shares_needed
returns-clause-shares_needed c = shares_needed

pub returns-clause-same_whole : goal.returns-clause-same_whole
returns-clause-same_whole c = same_whole

pub returns-clause-same_possible : goal.returns-clause-same_possible
returns-clause-same_possible c = same_possible

pub returns-clause-same_needed : goal.returns-clause-same_needed
returns-clause-same_needed c = same_needed

pub returns-clause-weak_whole : goal.returns-clause-weak_whole
returns-clause-weak_whole c = weak_whole

pub returns-clause-weak_possible : goal.returns-clause-weak_possible
returns-clause-weak_possible c = weak_possible

pub returns-clause-weak_needed : goal.returns-clause-weak_needed
returns-clause-weak_needed c = weak_needed

pub returns-clause-strong_whole : goal.returns-clause-strong_whole
returns-clause-strong_whole c = strong_whole

pub returns-clause-strong_possible : goal.returns-clause-strong_possible
returns-clause-strong_possible c = strong_possible

pub returns-clause-strong_needed : goal.returns-clause-strong_needed
returns-clause-strong_needed c = strong_needed

pub returns-clause-make_whole : goal.returns-clause-make_whole
returns-clause-make_whole c = make_whole

pub returns-clause-make_possible : goal.returns-clause-make_possible
returns-clause-make_possible c = make_possible

pub returns-clause-make_needed : goal.returns-clause-make_needed
returns-clause-make_needed c = make_needed

pub returns-clause-spawned_whole : goal.returns-clause-spawned_whole
returns-clause-spawned_whole c = spawned_whole

pub returns-clause-spawned_possible : goal.returns-clause-spawned_possible
returns-clause-spawned_possible c = spawned_possible

pub returns-clause-spawned_needed : goal.returns-clause-spawned_needed
returns-clause-spawned_needed c = spawned_needed
