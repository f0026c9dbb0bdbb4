use Rattle.std.proofs.Common.{◌≡◌, ◌||◌, ℕ, drop, nat_eq}
use Rattle.indexmap.specs.IndexSet.{contains}
use Rattle.sw_isolation_rules.specs.Captures.{is_among}
use Rattle.sw_lower_known.proofs.tables.boxes_of.Given as goal

-- the keys so far, and those that are left
abbrev pub invariant-loop-key : goal.invariant-loop-key
invariant-loop-key l = (other : ℕ) → (contains nat_eq l.set other
    || is_among (drop l.key-index l.boxes) other) ≡ is_among l.boxes other
