use Rattle.std.proofs.Common.{◌≡◌, ◌≤◌, ◌+◌, ◌++◌, drop}
use Rattle.sw_region_ops.specs.Elements.{numbered, elements_of}
use Rattle.sw_region_ops.proofs.elements.elements_of.Given as goal

abbrev pub invariant-loop-kind : goal.invariant-loop-kind
invariant-loop-kind l = record {
  made : l.elements ++ numbered l.shapes l.next (drop l.kind-index l.regs)
      ≡ elements_of l.shapes l.regs;
  few : l.next ≤ l.kind-index + 1;
}
