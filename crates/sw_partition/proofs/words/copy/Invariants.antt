use Rattle.std.proofs.Common.{◌≡◌, ℕ, ◌+◌, ◌<◌, ◌≤◌, slice_index}
use Rattle.sw_partition.proofs.words.copy.Given as goal

abbrev pub invariant-loop-i : goal.invariant-loop-i
invariant-loop-i l = record {
  inside : (i : ℕ) → i < l.i → slice_index l.words (l.to + i) ≡ slice_index l.fn.words (l.from + i);
  before : (i : ℕ) → i < l.to → slice_index l.words i ≡ slice_index l.fn.words i;
  after : (i : ℕ) → l.to + l.i ≤ i → slice_index l.words i ≡ slice_index l.fn.words i;
}
