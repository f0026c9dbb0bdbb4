use Rattle.std.proofs.Common.{◌≡◌, map, take, nat_eq}
use Rattle.indexmap.specs.IndexMap.{get}
use Rattle.sw_decls.specs.Signatures.{param_of}
use Rattle.sw_decls.proofs.signature.params_of.Given as goal

abbrev pub invariant-loop-tree : goal.invariant-loop-tree
invariant-loop-tree l =
    l.params ≡ map (param_of (get nat_eq l.words.meanings)) (take l.tree-index l.trees)
