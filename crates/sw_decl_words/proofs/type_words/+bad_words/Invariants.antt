use Rattle.std.proofs.Common.{◌≡◌, ◌++◌, map, take, nat_eq}
use Rattle.std.specs.List.{flat_map}
use Rattle.indexmap.specs.IndexMap.{get}
use Rattle.sw_decl_words.specs.TypeWords.{bad_words}
use Rattle.sw_decl_words.proofs.type_words.+bad_words.Given as goal

abbrev pub invariant-loop-param : goal.invariant-loop-param
invariant-loop-param l = l.found ≡ l.fn.found ++ flat_map (λ more. more)
    (map (bad_words (get nat_eq l.words.meanings)) (take l.param-index l.param-items))
