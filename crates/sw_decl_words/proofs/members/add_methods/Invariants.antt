use Rattle.std.proofs.Common.{◌≡◌, ◌++◌, take}
use Rattle.sw_decl_words.specs.Members.{methods_of}
use Rattle.sw_decl_words.proofs.members.add_methods.Given as goal

abbrev pub invariant-loop-func : goal.invariant-loop-func
invariant-loop-func l =
    l.members ≡ l.fn.members ++ methods_of l.shape (take l.func-index l.funcs)
