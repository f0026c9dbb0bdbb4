use Rattle.std.proofs.Common.{◌≡◌, ◌++◌, take, nat_eq}
use Rattle.indexmap.specs.IndexMap.{get}
use Rattle.sw_decl_members.specs.Members.{funcs_written}
use Rattle.sw_decl_members.proofs.members.funcs_written.Given as goal

abbrev pub invariant-loop-func : goal.invariant-loop-func
invariant-loop-func l = l.found
    ≡ l.fn.found ++ funcs_written (get nat_eq l.words.meanings) (take l.func-index l.funcs)
