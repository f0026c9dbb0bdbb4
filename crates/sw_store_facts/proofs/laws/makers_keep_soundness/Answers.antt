use Rattle.sw_store_facts.proofs.Making.{makes}
use Rattle.sw_store_facts.proofs.laws.makers_keep_soundness.Goals as goal

pub returns : goal.returns
returns c = makes
