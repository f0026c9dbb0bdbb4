use Rattle.std.proofs.Common.{Some, sym, ap, ◌∙◌}
use Rattle.std.specs.Option.{option_map}
use Rattle.std.specs.String.{string_bytes}
use Rattle.sw_value.specs.Printed.{printed_line}
use Rattle.sw_step.proofs.LineLemmas.{line_more, line_lacks, line_all}
use Rattle.sw_step.proofs.operands.printed_line.Goals as goal

pub returns-in-None : goal.returns-in-None
returns-in-None c =
    let regs = c.args.frame.now.regs in
    sym (line_lacks regs c.as_slice-operand-items.result.now c.loop-index.index _
    c.loop-index-test.true (sym c.in_ok-text_at.ensures
    ∙ ap (option_map string_bytes) c.in-None.is))
    ∙ ap (printed_line regs) c.as_slice-operand-items.ensures

pub loop-index-preserved : goal.loop-index-preserved
loop-index-preserved c =
    let text = sym c.in_ok-text_at.ensures ∙ ap (option_map string_bytes) c.in-Some.is
    ∙ ap Some (sym c.as_str.ensures.value) in
    rw c.in_ok-add_text-in-Some.ensures
    (line_more c.args.frame.now.regs c.as_slice-operand-items.result.now c.loop-index.index _
    c.loop-index.line.items c.as_str.result.now c.loop-index-test.true c.loop-index.invariant
    text)

pub returns : goal.returns
returns c =
    let regs = c.args.frame.now.regs in
    ap Some (c.from_vec.ensures ∙ c.in_ok-push.ensures.items)
    ∙ sym (line_all regs c.as_slice-operand-items.result.now c.loop-index.index
    c.loop-index.line.items c.loop-index-test.false c.loop-index.invariant)
    ∙ ap (printed_line regs) c.as_slice-operand-items.ensures
