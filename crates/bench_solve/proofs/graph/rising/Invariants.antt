use Rattle.std.proofs.Common.{◌≡◌, ℕ, ◌<◌, slice_index, vec_len}
use Rattle.bench_solve.proofs.graph.rising.Given as goal

abbrev pub invariant-loop-site : goal.invariant-loop-site
invariant-loop-site l = record {
  count : vec_len l.sites ≡ l.site;
  each : (k : ℕ) → k < l.site → slice_index l.sites.items k ≡ k;
}
