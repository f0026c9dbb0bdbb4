use Rattle.sw_hb.proofs.OrderLemmas.{one_order, some_order}
use Rattle.sw_hb.proofs.laws.items_have_one_order.Goals as goal

pub returns : goal.returns
returns c = record { some = some_order; one = one_order }
