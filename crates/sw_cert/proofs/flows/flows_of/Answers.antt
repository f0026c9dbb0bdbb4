use Rattle.sw_cert.proofs.Flowing.{flows_more, sized_more}
use Rattle.sw_cert.proofs.flows.flows_of.Goals as goal

pub loop-function-preserved : goal.loop-function-preserved
loop-function-preserved c = record {
  flows = flows_more c.args.graph.now c.loop-function.function c.loop-function.flows
      c.push.new.self c.in_ok-flow_of.field-0 c.loop-function.invariant.flows
      c.in_ok-flow_of.ensures.flow c.in_ok-push.ensures.ok;
  sized = sized_more c.loop-function.flows c.push.new.self c.in_ok-flow_of.field-0
      c.loop-function.invariant.sized c.in_ok-flow_of.ensures.sized c.in_ok-push.ensures.ok;
}
