use Rattle.std.proofs.Common.{◌∙◌}
use Rattle.sw_region_ops.proofs.EntryLemmas.{lent_next, lent_all}
use Rattle.sw_region_ops.proofs.entry.lend_all.Goals as goal

pub loop-index-preserved : goal.loop-index-preserved
loop-index-preserved c = record {
  sized = c.lend.ensures.sized ∙ c.loop-index.invariant.sized;
  lent = λ count sites met here is_met. lent_next count sites _ c.args.elements.now
      c.args.sending.now c.loop-index.index c.loop-index.state c.lend.new.state
      c.loop-index-test.true
      (λ m begins was. rw (← c.element_at.ensures) (c.lend.ensures.met count sites m begins was))
      (c.loop-index.invariant.lent count sites met here is_met);
}

pub returns : goal.returns
returns c = λ count sites met here is_met. lent_all count sites _ c.args.elements.now
    c.args.sending.now c.loop-index.index c.loop-index.state c.loop-index-test.false
    (c.loop-index.invariant.lent count sites met here is_met)
