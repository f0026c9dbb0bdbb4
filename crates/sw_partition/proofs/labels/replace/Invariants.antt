use Rattle.std.proofs.Common.{◌≡◌, ℕ, ◌<◌, slice_index}
use Rattle.sw_partition.proofs.labels.replace.Given as goal

abbrev pub invariant-loop-x : goal.invariant-loop-x
invariant-loop-x l = (p : ℕ) → p < l.x → slice_index l.labels p ≡ slice_index l.other p
