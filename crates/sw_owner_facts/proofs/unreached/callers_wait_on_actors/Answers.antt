use Rattle.sw_owner_facts.proofs.Examples.Unreached.{caller_waits}
use Rattle.sw_owner_facts.proofs.unreached.callers_wait_on_actors.Goals as goal

pub returns : goal.returns
returns c = caller_waits
