use Rattle.std.proofs.Common.{◌≡◌, [], ◌∷◌}
use Rattle.sw_partition.specs.Regions.{size_of}
use Rattle.bench_solve.proofs.wide.paired.Given as goal

abbrev pub invariant-loop-x : goal.invariant-loop-x
invariant-loop-x l = size_of l.state ≡ l.elements ∷ []
