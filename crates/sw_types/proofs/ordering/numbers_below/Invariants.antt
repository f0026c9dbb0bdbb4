use Rattle.std.proofs.Common.{◌≡◌, ℕ, ◌<◌, length, slice_index}
use Rattle.sw_types.proofs.ordering.numbers_below.Given as goal

abbrev pub invariant-loop-number : goal.invariant-loop-number
invariant-loop-number l = (length l.numbers ≡ l.number)
    × ((k : ℕ) → k < l.number → slice_index l.numbers k ≡ k)
