use Rattle.std.proofs.Common.{◌≡◌, ◌==◌, ◌++◌, ℕ, [], drop, filter, nat_eq}
use Rattle.std.specs.Option.{unwrap_or}
use Rattle.indexmap.specs.IndexMap.{get}
use Rattle.sw_isolation_rules.specs.declared.note.Capture.{Capture}
use Rattle.sw_lower_known.proofs.tables.groups_of.Given as goal

-- the captures so far, and those that are left
abbrev pub invariant-loop-capture : goal.invariant-loop-capture
invariant-loop-capture l = (key : ℕ) → unwrap_or (get nat_eq l.table key) []
    ++ filter (λ (one : Capture). one.closure == key) (drop l.capture-index l.captures)
    ≡ filter (λ (one : Capture). one.closure == key) l.captures
