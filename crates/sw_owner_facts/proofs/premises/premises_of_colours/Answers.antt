use Rattle.sw_owner_facts.proofs.PremiseLemmas.{merged_whole, unheld_whole, given_whole, closed_whole}
use Rattle.sw_owner_facts.proofs.PremiseLemmas.{dispatched_whole}
use Rattle.sw_owner_facts.proofs.Examples.Colours.{merged_possible, merged_needed, unheld_possible}
use Rattle.sw_owner_facts.proofs.Examples.Colours.{unheld_needed, given_possible, given_needed}
use Rattle.sw_owner_facts.proofs.Examples.Colours.{closed_possible, closed_needed, hands_over_needed}
use Rattle.sw_owner_facts.proofs.Examples.Colours.{dispatched_possible, dispatched_needed}
use Rattle.sw_owner_facts.proofs.premises.premises_of_colours.Goals as goal

pub returns-clause-merged_whole : goal.returns-clause-merged_whole
returns-clause-merged_whole c = merged_whole

pub returns-clause-merged_possible : goal.returns-clause-merged_possible
returns-clause-merged_possible c = merged_possible

pub returns-clause-merged_needed : goal.returns-clause-merged_needed
returns-clause-merged_needed c = merged_needed

pub returns-clause-unheld_whole : goal.returns-clause-unheld_whole
returns-clause-unheld_whole c = unheld_whole

pub returns-clause-unheld_possible : goal.returns-clause-unheld_possible
returns-clause-unheld_possible c = unheld_possible

pub returns-clause-unheld_needed : goal.returns-clause-unheld_needed
returns-clause-unheld_needed c = unheld_needed

pub returns-clause-given_whole : goal.returns-clause-given_whole
returns-clause-given_whole c = given_whole

pub returns-clause-given_possible : goal.returns-clause-given_possible
returns-clause-given_possible c = given_possible

pub returns-clause-given_needed : goal.returns-clause-given_needed
returns-clause-given_needed c = given_needed

pub returns-clause-closed_whole : goal.returns-clause-closed_whole
returns-clause-closed_whole c = closed_whole

pub returns-clause-closed_possible : goal.returns-clause-closed_possible
returns-clause-closed_possible c = closed_possible

pub returns-clause-closed_needed : goal.returns-clause-closed_needed
returns-clause-closed_needed c = closed_needed

pub returns-clause-hands_over_needed : goal.returns-clause-hands_over_needed
returns-clause-hands_over_needed c = hands_over_needed

pub returns-clause-dispatched_whole : goal.returns-clause-dispatched_whole
returns-clause-dispatched_whole c = dispatched_whole

pub returns-clause-dispatched_possible : goal.returns-clause-dispatched_possible
returns-clause-dispatched_possible c = dispatched_possible

pub returns-clause-dispatched_needed : goal.returns-clause-dispatched_needed
returns-clause-dispatched_needed c = dispatched_needed
