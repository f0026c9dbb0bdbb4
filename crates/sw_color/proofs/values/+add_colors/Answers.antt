use Rattle.std.proofs.Common.{arith}
use Rattle.sw_color.proofs.ValueLemmas.{group_done, case_done}
use Rattle.sw_color.proofs.values.+add_colors.Goals as goal

pub returns-after-loop-part : goal.returns-after-loop-part
returns-after-loop-part t c =
    group_done c.args.tints.now c.args.value.now _ c.as_slice-part-items.result.now
    c.loop-part.part-index c.args.numbers.now c.loop-part.numbers c.in-Group.is
    c.as_slice-part-items.ensures (omega arith) c.loop-part.invariant

pub returns-after-loop-held : goal.returns-after-loop-held
returns-after-loop-held t c =
    case_done c.args.tints.now c.args.value.now _ _ c.as_slice-held-items.result.now
    c.loop-held.held-index c.args.numbers.now c.loop-held.numbers c.in-Case.is
    c.as_slice-held-items.ensures (omega arith) c.loop-held.invariant
