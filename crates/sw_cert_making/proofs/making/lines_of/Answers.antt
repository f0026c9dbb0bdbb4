use Rattle.std.proofs.Common.{arith}
use Rattle.sw_cert_making.proofs.Assembling.{made_start, made_all}
use Rattle.sw_cert_making.proofs.Whole.{made_next, too_long}
use Rattle.sw_cert_making.proofs.making.lines_of.Goals as goal

pub loop-function-init : goal.loop-function-init
loop-function-init g c = record {
  made = made_start c.args.graph.now c.new-text.result.items c.new-text.ensures.items;
  grown = omega arith;
  within = omega (arith, c.new-text.ensures.len);
}

pub returns-then-not-within : goal.returns-then-not-within
returns-then-not-within g c =
    too_long c.args.graph.now c.loop-function.function c.loop-function.text.items
    c.add_function.new.text.items c.in_ok-within.within
    (omega (arith, c.loop-function-test.true, c.len-function-end.ensures))
    c.loop-function.invariant.made c.in_ok-within.ensures c.if-not-within.true

pub loop-function-preserved : goal.loop-function-preserved
loop-function-preserved g c =
    let next = made_next c.args.graph.now c.loop-function.function c.loop-function.text.items
    c.add_function.new.text.items c.in_ok-within.within
    (omega (arith, c.loop-function-test.true, c.len-function-end.ensures))
    c.loop-function.invariant.made c.in_ok-within.ensures c.if-not-within.false
    c.loop-function.invariant.grown in
    record { made = next.0; grown = next.1; within = next.2 }

pub returns : goal.returns
returns g c = (
  made_all c.args.graph.now c.loop-function.function c.loop-function.text.items
      (omega (arith, c.loop-function-test.false, c.len-function-end.ensures))
      c.loop-function.invariant.made,
  c.loop-function.invariant.within,
)
