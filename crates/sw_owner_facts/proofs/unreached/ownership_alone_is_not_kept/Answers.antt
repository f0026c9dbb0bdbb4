use Rattle.sw_owner_facts.proofs.Examples.Unreached.{without_return_link, without_initialiser_link}
use Rattle.sw_owner_facts.proofs.Examples.Unreached.{without_stack_shape}
use Rattle.sw_owner_facts.proofs.unreached.ownership_alone_is_not_kept.Goals as goal

pub returns-clause-without_return_link : goal.returns-clause-without_return_link
returns-clause-without_return_link c = without_return_link

pub returns-clause-without_initialiser_link : goal.returns-clause-without_initialiser_link
returns-clause-without_initialiser_link c = without_initialiser_link

pub returns-clause-without_stack_shape : goal.returns-clause-without_stack_shape
returns-clause-without_stack_shape c = without_stack_shape
