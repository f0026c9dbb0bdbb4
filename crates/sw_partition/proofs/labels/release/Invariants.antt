use Rattle.std.proofs.Common.{◌≡◌, ◌≢◌, ℕ, ◌<◌, ◌≤◌, length, slice_index, unwrap_or, MatchOption}
use Rattle.std.specs.Prelude.{◌==◌, if◌then◌else◌}
use Rattle.sw_partition.proofs.labels.release.Given as goal

abbrev pub invariant-loop-p : goal.invariant-loop-p
invariant-loop-p l = record {
  heir : MatchOption l.heir ((p : ℕ) → p < l.p → p ≢ l.x → slice_index l.fn.labels p ≢ l.x)
      (λ h. (h < length l.fn.labels) × (h ≢ l.x) × (slice_index l.fn.labels h ≡ l.x));
  done : (p : ℕ) → p < l.p → p ≢ l.x
      → slice_index l.labels p ≡
      (if slice_index l.fn.labels p == l.x then unwrap_or l.heir 0 else slice_index l.fn.labels p);
  rest : (p : ℕ) → l.p ≤ p → slice_index l.labels p ≡ slice_index l.fn.labels p;
}
