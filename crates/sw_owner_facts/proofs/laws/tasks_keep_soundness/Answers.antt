use Rattle.sw_owner_facts.proofs.CallLemmas.{spawned}
use Rattle.sw_owner_facts.proofs.laws.tasks_keep_soundness.Goals as goal

pub returns : goal.returns
returns c = spawned
