use Rattle.sw_before.proofs.PairLemmas.{first_stays, one_first}
use Rattle.sw_before.proofs.RivalLemmas.{first_decided}
use Rattle.sw_before.proofs.laws.first_pair_is_one.Goals as goal

pub returns : goal.returns
returns c = record { decided = first_decided; one = one_first; stays = first_stays }
