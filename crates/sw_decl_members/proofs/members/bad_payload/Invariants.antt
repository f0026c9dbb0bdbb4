use Rattle.std.proofs.Common.{◌≡◌, ◌++◌, take, nat_eq}
use Rattle.std.specs.List.{flat_map}
use Rattle.indexmap.specs.IndexMap.{get}
use Rattle.sw_decl_words.specs.TypeWords.{bad_words}
use Rattle.sw_decl_members.proofs.members.bad_payload.Given as goal

abbrev pub invariant-loop-tree : goal.invariant-loop-tree
invariant-loop-tree l = l.found ≡ l.fn.found
    ++ flat_map (bad_words (get nat_eq l.words.meanings)) (take l.tree-index l.tree-items)
