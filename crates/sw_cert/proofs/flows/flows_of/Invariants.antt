use Rattle.sw_cert.specs.Flows.{AreFirstFlows, AreSized}
use Rattle.sw_cert.proofs.flows.flows_of.Given as goal

abbrev pub invariant-loop-function : goal.invariant-loop-function
invariant-loop-function l = record {
  flows : AreFirstFlows l.graph l.function l.flows;
  sized : AreSized l.flows;
}
