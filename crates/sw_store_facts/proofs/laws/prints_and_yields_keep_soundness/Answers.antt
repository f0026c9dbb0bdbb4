use Rattle.sw_store_facts.proofs.Units.{prints, yields}
use Rattle.sw_store_facts.proofs.laws.prints_and_yields_keep_soundness.Goals as goal

pub returns : goal.returns
returns c = record { prints = prints; yields = yields }
