use Rattle.std.proofs.Common.{◌≡◌, ◌++◌, map, take, nat_eq}
use Rattle.indexmap.specs.IndexMap.{get}
use Rattle.sw_tree.specs.declared.decl.InitTree.{InitTree}
use Rattle.sw_decls.specs.Signatures.{init_of}
use Rattle.sw_decls.proofs.signature.add_written_inits.Given as goal

abbrev pub invariant-loop-init : goal.invariant-loop-init
invariant-loop-init l = l.made ≡ l.fn.made
    ++ map (λ (one : InitTree). init_of (get nat_eq l.words.meanings)
    (record { at = one.at; id = l.word.id }) l.number l.iso one.params)
    (take l.init-index l.inits)
