use Rattle.std.proofs.Common.{◌+◌, [], arith}
use Rattle.sw_region_flow.proofs.Collecting.{found_start, breaks_more, breaks_all}
use Rattle.sw_region_flow.proofs.Collecting.{joins_start, joins_more, joins_all}
use Rattle.sw_region_flow.proofs.finding.collect.Goals as goal

pub loop-function-init : goal.loop-function-init
loop-function-init g c = record {
  found = found_start c.args.graph.now c.new-found.result c.new-found.ensures;
  joins = joins_start c.args.graph.now c.args.steps.now;
}

pub loop-function-preserved : goal.loop-function-preserved
loop-function-preserved g c = record {
  found = breaks_more c.args.graph.now c.loop-function.function [] c.loop-function.found
      c.add_breaches.new.found (omega (arith, c.len-function-end.ensures))
      c.loop-function.invariant.found c.in_ok-add_breaches.ensures.found;
  joins = joins_more c.args.graph.now c.loop-function.function c.args.steps.now
      c.loop-function.steps c.add_breaches.new.steps (omega (arith, c.len-function-end.ensures))
      c.loop-function.invariant.joins c.add_breaches.ensures.joins;
}

pub returns-clause-found : goal.returns-clause-found
returns-clause-found g c = breaks_all c.args.graph.now c.loop-function.function
    c.loop-function.found (omega (arith, c.len-function-end.ensures))
    c.loop-function.invariant.found

pub returns-clause-joins : goal.returns-clause-joins
returns-clause-joins g c = omega (
  arith,
  joins_all c.args.graph.now c.loop-function.function,
  c.loop-function.invariant.joins,
)

pub returns-in_err-add_breaches-clause-joins : goal.returns-in_err-add_breaches-clause-joins
returns-in_err-add_breaches-clause-joins g c = omega (
  arith,
  joins_all c.args.graph.now (c.loop-function.function + 1),
  joins_more c.args.graph.now c.loop-function.function c.args.steps.now c.loop-function.steps
      c.add_breaches.new.steps (omega (arith, c.len-function-end.ensures))
      c.loop-function.invariant.joins c.add_breaches.ensures.joins,
)
