use Rattle.std.proofs.Common.{◌≡◌, ℕ, ◌+◌, ◌<◌, ◌≤◌, slice_index}
use Rattle.sw_partition.proofs.words.clear.Given as goal

abbrev pub invariant-loop-i : goal.invariant-loop-i
invariant-loop-i l = record {
  inside : (i : ℕ) → l.from + i < l.i → slice_index l.words (l.from + i) ≡ 0;
  before : (i : ℕ) → i < l.from → slice_index l.words i ≡ slice_index l.fn.words i;
  after : (i : ℕ) → l.i ≤ i → slice_index l.words i ≡ slice_index l.fn.words i;
}
