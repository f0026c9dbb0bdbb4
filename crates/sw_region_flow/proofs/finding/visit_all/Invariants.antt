use Rattle.sw_region_flow.specs.Visits.{FailsBelow}
use Rattle.sw_region_flow.proofs.Visiting.{IsFound}
use Rattle.sw_region_flow.proofs.finding.visit_all.Given as goal

abbrev pub invariant-loop-block : goal.invariant-loop-block
invariant-loop-block l = IsFound (FailsBelow l.flow.setting l.states l.block) l.fn.found l.found
