use Rattle.std.proofs.Common.{◌≡◌, ◌++◌, take, nat_eq}
use Rattle.std.specs.List.{flat_map}
use Rattle.indexmap.specs.IndexMap.{get}
use Rattle.sw_decl_members.specs.Members.{in_func}
use Rattle.sw_decl_members.proofs.members.in_funcs.Given as goal

abbrev pub invariant-loop-func : goal.invariant-loop-func
invariant-loop-func l = l.found ≡ l.fn.found
    ++ flat_map (in_func (get nat_eq l.words.meanings)) (take l.func-index l.funcs)
