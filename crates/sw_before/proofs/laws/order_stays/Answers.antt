use Rattle.sw_before.proofs.BeforeLemmas.{before_rises, before_stays}
use Rattle.sw_before.proofs.laws.order_stays.Goals as goal

pub returns : goal.returns
returns c = record { rises = before_rises; stays = before_stays }
