use Rattle.sw_view_facts.proofs.WholeLemmas as whole
use Rattle.sw_view_facts.proofs.effects.stores_and_makers_keep_soundness.Goals as goal

pub returns : goal.returns
returns c = record { stores = whole.store_keeps; makes = whole.maker_keeps }
