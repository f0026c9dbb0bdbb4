use Rattle.std.proofs.Common.{◌≡◌, ℕ, ◌<◌, bit_or, slice_index}
use Rattle.sw_partition.proofs.words.covers.Given as goal

abbrev pub invariant-loop-i : goal.invariant-loop-i
invariant-loop-i l = (k : ℕ) → k < l.i
    → bit_or (slice_index l.words k) (slice_index l.other k) ≡ slice_index l.words k
