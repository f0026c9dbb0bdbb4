use Rattle.std.proofs.Common.{ap, sym, subst, ◌∙◌, length, get_or, set, take, ◌+◌, false}
use Rattle.std.proofs.lemmas.List.{length-set}
use Rattle.sw_types.specs.Sendable.{shape_sends}
use Rattle.sw_types.proofs.Filling.{IsFilled, filled_all, filled_more, order_all, order_within}
use Rattle.sw_types.proofs.RankLemmas.{ranked}
use Rattle.sw_types.proofs.Looking.{sends_looks}
use Rattle.sw_types.proofs.tables.sends_table.Goals as goal

pub loop-number-preserved : goal.loop-number-preserved
loop-number-preserved c =
    let number = get_or c.args.order.now c.loop-number.number-index 0 in
    let said = c.shape_sends-sends.ensures ∙ ap (λ t. shape_sends (λ k. get_or t k false)
    c.index-shapes-at.result) c.as_slice.ensures in
    let new = c.set.ensures ∙ ap (set c.loop-number.table number) said in (
      ap length new ∙ length-set c.loop-number.table number _ ∙ c.loop-number.invariant.0,
      subst (IsFilled false shape_sends c.args.shapes.now
          (take (c.loop-number.number-index + 1) c.args.order.now)) (sym new)
          (filled_more false shape_sends c.args.shapes.now sends_looks (ranked _ _ c.requires)
          c.args.order.now
          c.requires.ordered c.loop-number.number-index c.loop-number.table c.index-shapes-at.result
          c.loop-number-test.true (order_within c.args.shapes.now c.args.order.now
          c.requires c.loop-number.number-index c.loop-number-test.true)
          c.loop-number.invariant.0 c.index-shapes-at.is c.loop-number.invariant.1),
    )

pub returns : goal.returns
returns c =
    filled_all false shape_sends c.args.shapes.now c.args.order.now (order_all _ _ c.requires)
    c.loop-number.number-index c.loop-number.table c.loop-number-test.false
    c.loop-number.invariant.0 c.loop-number.invariant.1

pub bounds-shapes-at : goal.bounds-shapes-at
bounds-shapes-at c = order_within c.args.shapes.now c.args.order.now c.requires
    c.loop-number.number-index c.loop-number-test.true
