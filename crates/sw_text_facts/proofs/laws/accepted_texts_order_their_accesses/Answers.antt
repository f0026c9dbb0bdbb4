use Rattle.sw_text_facts.proofs.Sound.{accepted_ordered}
use Rattle.sw_text_facts.proofs.laws.accepted_texts_order_their_accesses.Goals as goal

pub returns : goal.returns
returns c = accepted_ordered
