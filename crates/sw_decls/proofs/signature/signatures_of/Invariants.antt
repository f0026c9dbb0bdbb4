use Rattle.std.proofs.Common.{◌≡◌, ◌++◌, ◌≤◌, drop, nat_eq}
use Rattle.indexmap.specs.IndexMap.{get}
use Rattle.sw_decls.specs.Signatures.{funcs_from}
use Rattle.sw_decls.proofs.signature.signatures_of.Given as goal

-- the functions so far, and those of the declarations that are left
abbrev pub invariant-loop-decl : goal.invariant-loop-decl
invariant-loop-decl l = (l.number ≤ l.decl-index)
    × (l.made ++ funcs_from (get nat_eq l.words.meanings) l.default l.number
    (drop l.decl-index l.decls) ≡ funcs_from (get nat_eq l.words.meanings) l.default 0 l.decls)
