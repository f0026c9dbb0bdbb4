use Rattle.std.proofs.Common.{arith}
use Rattle.std.proofs.lemmas.Result.{err_from_is_err_and}
use Rattle.sw_cert.proofs.Looking.{block_fits, start_fits, line_block, table_sized, first_fault}
use Rattle.sw_cert.proofs.Looking.{holds_more}
use Rattle.sw_cert.proofs.testing.test_lines.Goals as goal

pub overflow_cast-line : goal.overflow_cast-line
overflow_cast-line c = omega (
  arith,
  block_fits c.args.flows.now c.args.tables.now c.args.lines.now c.requires.sized
      c.requires.tables c.requires.lines c.loop-n.n c.loop-n-test.true c.index-lines-n.result
      c.index-lines-n.is,
)

pub overflow_cast-starts : goal.overflow_cast-starts
overflow_cast-starts c = omega (
  arith,
  start_fits c.args.flows.now c.args.tables.now c.args.lines.now c.requires.sized
      c.requires.tables c.requires.lines c.loop-n.n c.loop-n-test.true c.index-lines-n.result
      c.index-lines-n.is c.args.starts.now c.requires.starts c.requires.few,
)

pub test_line-requires-clause-block : goal.test_line-requires-clause-block
test_line-requires-clause-block c = line_block c.args.flows.now c.args.tables.now
    c.args.lines.now c.requires.sized c.requires.tables c.requires.lines c.loop-n.n
    c.loop-n-test.true c.index-lines-n.result c.index-lines-n.is c.index-flows-function.result

pub test_line-requires-clause-sized : goal.test_line-requires-clause-sized
test_line-requires-clause-sized c = table_sized c.args.flows.now c.args.tables.now
    c.args.lines.now c.requires.sized c.requires.tables c.requires.lines c.loop-n.n
    c.loop-n-test.true c.index-lines-n.result c.index-lines-n.is c.index-flows-function.result
    c.index-tables-function.result c.index-tables-function.is

pub returns-in_err-test_line-clause-fault : goal.returns-in_err-test_line-clause-fault
returns-in_err-test_line-clause-fault c =
    let fault = err_from_is_err_and c.from_residual.result c.from_residual.ensures.1 in
    rw (fault.1, fault.2)
    (first_fault c.args.flows.now c.args.tables.now c.args.lines.now c.requires.sized
    c.requires.tables c.requires.lines c.loop-n.n c.loop-n-test.true c.index-lines-n.result
    c.index-lines-n.is c.index-flows-function.result c.index-tables-function.result
    c.index-tables-function.is c.args.starts.now c.in_err-test_line.field-0.0 c.requires.starts
    c.loop-n.invariant c.in_err-test_line.ensures.fault)

pub loop-n-preserved : goal.loop-n-preserved
loop-n-preserved c = holds_more c.args.flows.now c.args.tables.now c.args.lines.now
    c.requires.sized c.requires.tables c.requires.lines c.loop-n.n c.loop-n-test.true
    c.index-lines-n.result c.index-lines-n.is c.index-flows-function.result
    c.index-tables-function.result c.index-tables-function.is c.loop-n.invariant
    c.in_ok-test_line.ensures.passes c.in_ok-test_line.ensures.closed
