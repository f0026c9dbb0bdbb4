use Rattle.std.proofs.Common.{◌++◌, ◌∷◌, [], Some, sym, ap, ◌∙◌}
use Rattle.sw_value.specs.Lists.{each_of}
use Rattle.sw_value.specs.Value.{operand_value}
use Rattle.sw_value.proofs.ListLemmas.{each_more, each_lacks}
use Rattle.sw_step.proofs.operands.values_at.Goals as goal

pub returns-in-None : goal.returns-in-None
returns-in-None c =
    let value = operand_value c.args.frame.now.regs in
    sym (each_lacks value c.as_slice-operand-items.result.now c.loop-operand.operand-index _
    c.loop-operand-test.true (sym c.in-None.ensures))
    ∙ ap (each_of value) c.as_slice-operand-items.ensures

pub loop-operand-preserved : goal.loop-operand-preserved
loop-operand-preserved c =
    each_more (operand_value c.args.frame.now.regs) c.as_slice-operand-items.result.now
    c.loop-operand.operand-index _ c.loop-operand.values c.in-Some.value.now
    c.loop-operand-test.true c.loop-operand.invariant (sym c.in-Some.ensures)
    ∙ ap (λ v. Some (c.loop-operand.values ++ v ∷ [])) (sym c.in_ok-copied-in-Some.ensures)
    ∙ ap Some (sym c.in_ok-push-in-Some.ensures.ok)
