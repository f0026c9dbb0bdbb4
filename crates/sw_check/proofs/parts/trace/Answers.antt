use Rattle.sw_check.proofs.PartLemmas.{trace_answered}
use Rattle.sw_check.proofs.parts.trace.Goals as goal

pub returns : goal.returns
returns c =
    trace_answered c.args.text.now c.args.graph.now c.args.items.now c.in_ok-replay.replay _
    c.in_ok-replay.ensures c.trace_ending.ensures
