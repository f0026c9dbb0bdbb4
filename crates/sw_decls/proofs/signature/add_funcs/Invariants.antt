use Rattle.std.proofs.Common.{◌≡◌, ◌++◌, map, take, nat_eq}
use Rattle.indexmap.specs.IndexMap.{get}
use Rattle.sw_decls.specs.Signatures.{func_of}
use Rattle.sw_decls.proofs.signature.add_funcs.Given as goal

abbrev pub invariant-loop-func : goal.invariant-loop-func
invariant-loop-func l = l.made ≡ l.fn.made
    ++ map (func_of (get nat_eq l.words.meanings) l.default l.owner l.iso)
    (take l.func-index l.funcs)
