use Rattle.std.proofs.Common.{◌≡◌, ◌++◌, drop, map}
use Rattle.sw_tree.specs.declared.expr.ClosureParam.{ClosureParam}
use Rattle.sw_tree_arena.proofs.closures.keys_of.Given as goal

-- the keys so far, and those of the parameters that are left
abbrev pub invariant-loop-param : goal.invariant-loop-param
invariant-loop-param l =
    l.keys ++ map (λ (param : ClosureParam). param.name.at) (drop l.param-index l.params)
    ≡ map (λ (param : ClosureParam). param.name.at) l.params
