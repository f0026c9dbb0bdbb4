use Rattle.sw_store_facts.proofs.Stores.{box_stores, part_stores, global_stores}
use Rattle.sw_store_facts.proofs.laws.stores_keep_soundness.Goals as goal

pub returns : goal.returns
returns c = record { boxes = box_stores; parts = part_stores; globals = global_stores }
