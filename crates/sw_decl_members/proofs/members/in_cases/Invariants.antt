use Rattle.std.proofs.Common.{◌≡◌, ◌++◌, take, nat_eq}
use Rattle.indexmap.specs.IndexMap.{get}
use Rattle.sw_decl_members.specs.Members.{in_cases}
use Rattle.sw_decl_members.proofs.members.in_cases.Given as goal

abbrev pub invariant-loop-case : goal.invariant-loop-case
invariant-loop-case l = l.found
    ≡ l.fn.found ++ in_cases (get nat_eq l.words.meanings) (take l.case-index l.cases)
