use Rattle.std.proofs.Common.{length, arith}
use Rattle.sw_dictation.proofs.Sharing.{one_more, at_end, past_min}
use Rattle.sw_dictation.proofs.choice.common.Goals as goal

pub returns : goal.returns
returns c =
    let past = past_min (length c.args.bytes.now) (length c.args.text.now) c.loop-i.i
    (omega (arith, c.loop-i-test.false, c.min-least.ensures)) in
    let none = at_end c.args.bytes.now c.args.text.now c.loop-i.i past in
    omega (arith, c.loop-i.invariant, none, c.loop-i-test.false, c.loop-i.auto.i-end)

pub loop-i-preserved : goal.loop-i-preserved
loop-i-preserved c =
    let more = one_more c.args.bytes.now c.args.text.now c.loop-i.i
    (omega (arith, c.loop-i-test.true, c.min-least.ensures))
    (omega (arith, c.loop-i-test.true, c.min-least.ensures)) c.if-bytes-i.false in
    omega (arith, c.loop-i.invariant, more)
