use Rattle.std.proofs.Common.{◌≡◌, ◌≤◌, ◌+◌, ℕ, drop, nat_eq}
use Rattle.indexmap.specs.IndexMap.{get}
use Rattle.sw_decl_words.specs.Words.{meaning_from, or_else, top_meaning}
use Rattle.sw_decl_words.proofs.words.Words.of.Given as goal

-- what the words mean so far, or else what the declarations that are left make of them
abbrev pub invariant-loop-decl : goal.invariant-loop-decl
invariant-loop-decl l = (l.shapes ≤ l.decl-index) × (l.actors ≤ l.decl-index + 1)
    × (l.globals ≤ l.decl-index) × ((id : ℕ) → or_else (get nat_eq l.words.meanings id)
    (meaning_from (drop l.decl-index l.decls) l.shapes l.actors l.globals id)
    ≡ top_meaning l.decls id)
