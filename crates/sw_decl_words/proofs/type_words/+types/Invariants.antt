use Rattle.std.proofs.Common.{◌≡◌, map, take, nat_eq}
use Rattle.indexmap.specs.IndexMap.{get}
use Rattle.sw_decl_words.specs.TypeWords.{type_of}
use Rattle.sw_decl_words.proofs.type_words.+types.Given as goal

abbrev pub invariant-types_of-loop-tree : goal.invariant-types_of-loop-tree
invariant-types_of-loop-tree l =
    l.types ≡ map (type_of (get nat_eq l.words.meanings)) (take l.tree-index l.trees)
