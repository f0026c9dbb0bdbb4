use Rattle.std.proofs.Common.{sym}
use Rattle.std.proofs.lemmas.Result.{err_from_is_err_and}
use Rattle.sw_lower_draft.specs.Drafts.{making_of}
use Rattle.sw_lower_stmt.proofs.Loops.{each_ends, each_fails, each_next, next_item}
use Rattle.sw_lower_stmt.proofs.Loops.{no_item}
use Rattle.sw_lower_stmt.specs.Parts.{arm_number}
use Rattle.sw_lower_expr.proofs.Gathered.{each_is}
use Rattle.sw_lower_stmt.proofs.cases.arm_numbers.Goals as goal

pub loop-arm-init : goal.loop-arm-init
loop-arm-init c = rw c.new-blocks.ensures
    (sym (each_is (arm_number c.args.subject c.args.number c.args.shape.now) c.args.arms.now
    (making_of c.args.draft.now)))

pub loop-arm-preserved : goal.loop-arm-preserved
loop-arm-preserved c = rw c.in_ok-push.ensures.ok
    (each_next (arm_number c.args.subject c.args.number c.args.shape.now) _ c.loop-arm.blocks
    (making_of c.loop-arm.draft) _ c.loop-arm.invariant c.arm-item.result _ _
    (making_of c.arm_number.new.draft)
    (next_item c.args.arms.now c.loop-arm.arm-index c.arm-item.result c.loop-arm-test.true
    c.arm-item.is) c.in_ok-arm_number.ensures)

pub returns-in_err-arm_number : goal.returns-in_err-arm_number
returns-in_err-arm_number c =
    let p = err_from_is_err_and c.from_residual.result c.from_residual.ensures.1 in
    rw (p.1, p.2) (λ other.
    each_fails (arm_number c.args.subject c.args.number c.args.shape.now) _ c.loop-arm.blocks
    (making_of c.loop-arm.draft) _ c.loop-arm.invariant c.arm-item.result _ _
    (next_item c.args.arms.now c.loop-arm.arm-index c.arm-item.result c.loop-arm-test.true
    c.arm-item.is) (c.in_err-arm_number.ensures other))

pub returns : goal.returns
returns c =
    each_ends (arm_number c.args.subject c.args.number c.args.shape.now) _ c.loop-arm.blocks
    (making_of c.loop-arm.draft) _ c.loop-arm.invariant
    (no_item c.args.arms.now c.loop-arm.arm-index c.loop-arm-test.false)
