use Rattle.std.proofs.Common.{◌≡◌, ◌≤◌, ◌+◌, drop}
use Rattle.sw_region_ops.specs.Elements.{element_count}
use Rattle.sw_region_ops.proofs.elements.element_count.Given as goal

abbrev pub invariant-loop-element : goal.invariant-loop-element
invariant-loop-element l = record {
  counted : l.count + element_count (drop l.element-index l.elements)
      ≡ element_count l.elements + 1;
  few : l.count ≤ l.element-index + 1;
}
