use Rattle.std.proofs.Common.{◌≡◌, map, take, nat_eq}
use Rattle.indexmap.specs.IndexMap.{get}
use Rattle.sw_decl_words.specs.Shaped.{case_of}
use Rattle.sw_decl_words.proofs.shaped.cases_of.Given as goal

abbrev pub invariant-loop-case : goal.invariant-loop-case
invariant-loop-case l =
    l.made ≡ map (case_of (get nat_eq l.words.meanings)) (take l.case-index l.cases)
