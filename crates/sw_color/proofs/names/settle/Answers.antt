use Rattle.std.proofs.Common.{sym, ◌∙◌}
use Rattle.sw_color.proofs.TurnLemmas.{settle_next}
use Rattle.sw_color.proofs.names.settle.Goals as goal

pub loop-next-preserved : goal.loop-next-preserved
loop-next-preserved c =
    settle_next c.args.parents.now c.loop-next.parents c.settle_one.new.parents c.loop-next.at
    c.in-Some.next c.args.name c.loop-next.invariant.0 c.loop-next.invariant.1
    (sym c.parent.ensures.value ∙ c.in-Some.is) c.settle_one.ensures
