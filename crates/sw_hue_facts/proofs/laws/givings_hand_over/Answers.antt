use Rattle.sw_hue_facts.proofs.Handing.{givings_hand_over}
use Rattle.sw_hue_facts.proofs.laws.givings_hand_over.Goals as goal

pub returns : goal.returns
returns c = givings_hand_over
