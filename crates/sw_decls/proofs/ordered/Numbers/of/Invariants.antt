use Rattle.std.proofs.Common.{◌≡◌, ℕ, drop, nat_eq}
use Rattle.indexmap.specs.IndexMap.{get}
use Rattle.sw_decl_words.specs.Words.{or_else}
use Rattle.sw_decls.specs.Declaring.{numbered, numbered_from}
use Rattle.sw_decls.proofs.ordered.Numbers.of.Given as goal

-- the numbers so far, or else those of the functions that are left
abbrev pub invariant-loop-number : goal.invariant-loop-number
invariant-loop-number l = (key : ℕ) → or_else (get nat_eq l.numbers.table key)
    (numbered_from l.number (drop l.number l.funcs) key) ≡ numbered l.funcs key
