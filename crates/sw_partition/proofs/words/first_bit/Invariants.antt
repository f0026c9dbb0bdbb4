use Rattle.std.proofs.Common.{◌≡◌, ℕ, ◌+◌, ◌<◌, slice_index}
use Rattle.sw_partition.proofs.words.first_bit.Given as goal

abbrev pub invariant-loop-i : goal.invariant-loop-i
invariant-loop-i l = (i : ℕ) → i < l.i → slice_index l.words (l.from + i) ≡ 0
