use Rattle.std.proofs.Common.{◌≡◌, ℕ, ◌<◌, ◌≤◌, true, false, bit_or, slice_index}
use Rattle.sw_partition.proofs.words.fill.Given as goal

abbrev pub invariant-loop-i : goal.invariant-loop-i
invariant-loop-i l = record {
  done : (i : ℕ) → i < l.i → slice_index l.words i ≡ bit_or (slice_index l.fn.words i)
      (slice_index l.other i);
  rest : (i : ℕ) → l.i ≤ i → slice_index l.words i ≡ slice_index l.fn.words i;
  unchanged : l.rose ≡ false → l.words ≡ l.fn.words;
  changed : l.rose ≡ true → (i : ℕ) × (i < l.i)
      × (slice_index l.words i ≡ slice_index l.fn.words i → ⊥);
}
