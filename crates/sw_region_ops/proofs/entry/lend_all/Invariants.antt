use Rattle.std.proofs.Common.{◌≡◌, ◌++◌, ℕ, List, length, drop}
use Rattle.std.specs.List.{Contains}
use Rattle.sw_region_ops.specs.Entry.{IsMet, lent_from}
use Rattle.sw_region_ops.proofs.EntryLemmas.{IsLentUpTo}
use Rattle.sw_region_ops.proofs.entry.lend_all.Given as goal

abbrev pub invariant-loop-index : goal.invariant-loop-index
invariant-loop-index l = record {
  sized : length l.state.labels ≡ length l.fn.state.labels;
  lent : (count : ℕ) (sites met : List ℕ) → Contains met 0 → IsMet count sites met l.fn.state
      → IsLentUpTo count sites (met ++ lent_from l.elements 0 l.sending)
      (lent_from l.elements l.index (drop l.index l.sending)) l.state;
}
