use Rattle.std.proofs.Common.{◌+◌, refl, sym, subst, arith}
use Rattle.sw_dictation.proofs.Among.{IsMost, most_more, most_ends}
use Rattle.sw_dictation.proofs.choice.tried.Goals as goal

pub loop-number-preserved : goal.loop-number-preserved
loop-number-preserved c =
    subst (IsMost c.args.numbers.now c.args.closer c.args.bytes.now
    (c.loop-number.number-index + 1)) (sym c.max-most.ensures)
    (most_more c.args.numbers.now c.args.closer c.args.bytes.now c.loop-number.number-index
    c.loop-number.most _ c.in-Err.met c.loop-number.invariant (omega arith) refl
    c.in-Err.ensures.common c.in-Err.ensures.none)

pub returns-clause-err : goal.returns-clause-err
returns-clause-err c =
    most_ends c.args.numbers.now c.args.closer c.args.bytes.now c.loop-number.number-index
    c.loop-number.most c.loop-number.invariant (omega (arith, c.loop-number-test.false))
