use Rattle.std.proofs.Common.{◌≡◌, ◌++◌, drop, map}
use Rattle.sw_lower_known.specs.Knowledge.{tables_by}
use Rattle.sw_lower_rules.specs.Expressions.{closure_param_taken}
use Rattle.sw_lower.proofs.takes.add_closure_params.Given as goal

-- what was added so far, with what is left to add, is the whole
abbrev pub invariant-loop-param : goal.invariant-loop-param
invariant-loop-param l =
    l.takes ++ map (closure_param_taken (tables_by l.known)) (drop l.param-index l.params)
    ≡ l.fn.takes ++ map (closure_param_taken (tables_by l.known)) l.params
