use Rattle.std.proofs.Common.{◌≡◌, ◌++◌, take, nat_eq}
use Rattle.std.specs.List.{flat_map}
use Rattle.indexmap.specs.IndexMap.{get}
use Rattle.sw_decl_members.specs.Members.{in_init}
use Rattle.sw_decl_members.proofs.members.in_inits.Given as goal

abbrev pub invariant-loop-init : goal.invariant-loop-init
invariant-loop-init l = l.found ≡ l.fn.found
    ++ flat_map (in_init (get nat_eq l.words.meanings)) (take l.init-index l.inits)
