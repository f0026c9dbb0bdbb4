use Rattle.std.proofs.Common.{◌≡◌, ◌++◌, take}
use Rattle.sw_decl_members.specs.Members.{func_words}
use Rattle.sw_decl_members.proofs.members.add_func_words.Given as goal

abbrev pub invariant-loop-func : goal.invariant-loop-func
invariant-loop-func l = l.names ≡ l.fn.names ++ func_words (take l.func-index l.funcs)
