use Rattle.std.proofs.Common.{◌≡◌, ℕ, drop, nat_eq}
use Rattle.indexmap.specs.IndexMap.{get}
use Rattle.sw_decl_words.specs.Words.{or_else}
use Rattle.sw_lower_rules.specs.Tables.{body_with}
use Rattle.sw_lower_known.proofs.tables.isolations_of.Given as goal

-- the bodies so far, or else those that are left
abbrev pub invariant-loop-body : goal.invariant-loop-body
invariant-loop-body l = (key : ℕ) → or_else (get nat_eq l.table key)
    (body_with (drop l.body-index l.bodies) key) ≡ body_with l.bodies key
