use Rattle.std.proofs.Common.{◌≡◌, ℕ, drop, nat_eq}
use Rattle.indexmap.specs.IndexMap.{get}
use Rattle.sw_decl_words.specs.Words.{or_else}
use Rattle.sw_isolation_rules.specs.Lists.{kind_with}
use Rattle.sw_isolation_table.proofs.by_key.kinds_of.Given as goal

-- the kinds so far, or else those that are left
abbrev pub invariant-loop-one : goal.invariant-loop-one
invariant-loop-one l = (key : ℕ) → or_else (get nat_eq l.table key)
    (kind_with (drop l.one-index l.kinds) key) ≡ kind_with l.kinds key
