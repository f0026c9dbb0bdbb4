use Rattle.std.proofs.Common.{◌≡◌, ◌++◌, drop, map}
use Rattle.sw_tree.specs.declared.expr.ClosureParam.{ClosureParam}
use Rattle.sw_decl_words.specs.TypeWords.{type_of}
use Rattle.sw_typing_rules.specs.Worlds.{world_of}
use Rattle.sw_typing_steps.proofs.closures.param_types.Given as goal

-- the types so far, and those of the parameters that are left
abbrev pub invariant-loop-param : goal.invariant-loop-param
invariant-loop-param l =
    l.made ++ map (λ (param : ClosureParam). type_of (world_of l.world).known.top param.ty)
    (drop l.param-index l.params)
    ≡ map (λ (param : ClosureParam). type_of (world_of l.world).known.top param.ty) l.params
