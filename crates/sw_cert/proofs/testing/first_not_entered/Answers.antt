use Rattle.sw_cert.proofs.Copies.{not_true}
use Rattle.sw_cert.proofs.Looking.{entry_sized, enters_here, enters_not_here, enters_more}
use Rattle.sw_cert.proofs.Looking.{enters_all}
use Rattle.sw_cert.proofs.testing.first_not_entered.Goals as goal

pub includes_at-requires : goal.includes_at-requires
includes_at-requires c = entry_sized c.args.flows.now c.args.tables.now c.requires.tables
    c.loop-function.function c.loop-function-test.true c.index-flows-function.result
    c.index-flows-function.is c.index-tables-function.result c.index-tables-function.is
    c.requires.sized

pub returns-then-not-includes_at : goal.returns-then-not-includes_at
returns-then-not-includes_at c = (
  c.loop-function-test.true,
  enters_not_here c.args.flows.now c.args.tables.now c.requires.tables c.loop-function.function
      c.loop-function-test.true c.index-flows-function.result c.index-flows-function.is
      c.index-tables-function.result c.index-tables-function.is
      (λ below. not_true c.includes_at.result c.if-not-includes_at.true
      (c.includes_at.ensures.1 below)),
  c.loop-function.invariant,
)

pub loop-function-preserved : goal.loop-function-preserved
loop-function-preserved c = enters_more c.args.flows.now c.args.tables.now
    c.loop-function.function c.loop-function.invariant
    (enters_here c.args.flows.now c.args.tables.now c.requires.tables c.loop-function.function
    c.loop-function-test.true c.index-flows-function.result c.index-flows-function.is
    c.index-tables-function.result c.index-tables-function.is
    (c.includes_at.ensures.0 c.if-not-includes_at.false))

pub returns : goal.returns
returns c = enters_all c.args.flows.now c.args.tables.now c.loop-function.function
    c.loop-function-test.false c.loop-function.invariant
