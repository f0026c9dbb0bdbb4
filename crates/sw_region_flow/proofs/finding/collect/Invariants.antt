use Rattle.std.proofs.Common.{◌+◌, ◌≤◌, []}
use Rattle.sw_region_flow.specs.Visits.{BreaksBelow}
use Rattle.sw_region_flow.proofs.Collecting.{joins_below}
use Rattle.sw_region_flow.proofs.Visiting.{IsFound}
use Rattle.sw_region_flow.proofs.finding.collect.Given as goal

abbrev pub invariant-loop-function : goal.invariant-loop-function
invariant-loop-function g l = record {
  found : IsFound (BreaksBelow l.graph l.function) [] l.found;
  joins : l.steps ≤ l.fn.steps + joins_below l.graph l.function;
}
