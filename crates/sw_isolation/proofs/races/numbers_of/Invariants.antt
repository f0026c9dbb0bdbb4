use Rattle.std.proofs.Common.{◌≡◌, ℕ, drop, nat_eq, option_map}
use Rattle.indexmap.specs.IndexMap.{get}
use Rattle.sw_decl_words.specs.Words.{or_else}
use Rattle.sw_types.specs.declared.ty.Ty.TheVariants as types
use Rattle.sw_isolation_rules.specs.Races.{shape_from}
use Rattle.sw_isolation.proofs.races.numbers_of.Given as goal

-- the types that have a number so far, or else those that are left
abbrev pub invariant-loop-number : goal.invariant-loop-number
invariant-loop-number l = (key : ℕ) → or_else (option_map types.Named (get nat_eq l.numbers key))
    (shape_from l.number (drop l.number l.shapes) key) ≡ shape_from 0 l.shapes key
