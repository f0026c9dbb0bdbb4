use Rattle.sw_store_facts.proofs.Copies.{box_loads, part_loads}
use Rattle.sw_store_facts.proofs.laws.loads_keep_soundness.Goals as goal

pub returns : goal.returns
returns c = record { boxes = box_loads; parts = part_loads }
