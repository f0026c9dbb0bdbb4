use Rattle.std.proofs.Common.{◌≡◌, ◌++◌, take}
use Rattle.sw_decl_members.specs.Members.{funcs_in_actor}
use Rattle.sw_decl_members.proofs.members.funcs_in_actor.Given as goal

abbrev pub invariant-loop-func : goal.invariant-loop-func
invariant-loop-func l = l.found ≡ l.fn.found ++ funcs_in_actor (take l.func-index l.funcs)
