use Rattle.std.proofs.Common.{◌≡◌, map, take}
use Rattle.std.specs.List.{AllByRecursion}
use Rattle.sw_cert.specs.Flows.{IsSmall, extent_for}
use Rattle.sw_cert.proofs.flows.extents_of.Given as goal

abbrev pub invariant-loop-flow : goal.invariant-loop-flow
invariant-loop-flow l = record {
  value : l.extents ≡ map extent_for (take l.flow-index l.flows);
  small : AllByRecursion IsSmall l.extents;
}
