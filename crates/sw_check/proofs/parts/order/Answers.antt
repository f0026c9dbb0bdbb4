use Rattle.sw_check.proofs.PartLemmas.{order_answered}
use Rattle.sw_check.proofs.parts.order.Goals as goal

pub returns : goal.returns
returns c =
    order_answered c.args.text.now c.args.graph.now c.args.items.now c.in_ok-replay.replay _
    c.in_ok-replay.ensures c.order_ending.ensures
