use Rattle.std.proofs.Common.{◌≡◌, ◌++◌, map, take, nat_eq}
use Rattle.std.specs.List.{flat_map}
use Rattle.indexmap.specs.IndexMap.{get}
use Rattle.sw_tree.specs.declared.expr.ClosureParam.{ClosureParam}
use Rattle.sw_decl_words.specs.TypeWords.{bad_words}
use Rattle.sw_decl_names.proofs.bodies.closure_params.Given as goal

abbrev pub invariant-loop-param : goal.invariant-loop-param
invariant-loop-param l =
    (l.names ≡ map (λ (param : ClosureParam). param.name) (take l.param-index l.params))
    × (l.found ≡ l.fn.found ++ flat_map (λ (param : ClosureParam).
    bad_words (get nat_eq l.words.meanings) param.ty) (take l.param-index l.params))
