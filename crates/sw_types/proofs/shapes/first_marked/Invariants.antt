use Rattle.std.proofs.Common.{◌≡◌, ℕ, ◌<◌, ◌≤◌, true, false, get_or}
use Rattle.sw_types.specs.Cycles.{place_of}
use Rattle.sw_types.proofs.shapes.first_marked.Given as goal

abbrev pub invariant-loop-number : goal.invariant-loop-number
invariant-loop-number l = (get_or l.marks l.first false ≡ true)
    × ((k : ℕ) → k < l.number → get_or l.marks k false ≡ true
    → place_of l.shapes l.first ≤ place_of l.shapes k)
