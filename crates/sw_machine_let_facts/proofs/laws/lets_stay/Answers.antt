use Rattle.sw_machine_let_facts.proofs.KeepLemmas.{let_kept, let_kept_on, let_stays}
use Rattle.sw_machine_let_facts.proofs.laws.lets_stay.Goals as goal

pub returns : goal.returns
returns c = record { step = let_kept; items = let_kept_on; stays = let_stays }
