use Rattle.std.proofs.Common.{◌≡◌, ◌++◌, ◌≤◌, drop}
use Rattle.sw_decl_words.specs.Evident.{tabled}
use Rattle.sw_decl_words.specs.Shaped.{shapes_from}
use Rattle.sw_decl_words.proofs.shaped.shapes_of.Given as goal

-- the shapes so far, and those of the declarations that are left
abbrev pub invariant-loop-decl : goal.invariant-loop-decl
invariant-loop-decl l = (l.number ≤ l.decl-index)
    × (l.shapes ++ shapes_from (tabled l.words l.members) l.number (drop l.decl-index l.decls)
    ≡ shapes_from (tabled l.words l.members) 0 l.decls)
