use Rattle.sw_store_facts.proofs.Heres.{constants}
use Rattle.sw_store_facts.proofs.laws.literals_keep_soundness.Goals as goal

pub returns : goal.returns
returns c = constants
