use Rattle.std.proofs.Common.{◌≡◌, ℕ, ◌<◌, ◌≤◌, slice_index}
use Rattle.std.specs.Prelude.{◌==◌, if◌then◌else◌}
use Rattle.sw_partition.proofs.labels.relabel.Given as goal

abbrev pub invariant-loop-label : goal.invariant-loop-label
invariant-loop-label l = record {
  done : (p : ℕ) → p < l.label-index
      → slice_index l.labels p ≡
      (if slice_index l.fn.labels p == l.from then l.to else slice_index l.fn.labels p);
  rest : (p : ℕ) → l.label-index ≤ p → slice_index l.labels p ≡ slice_index l.fn.labels p;
}
