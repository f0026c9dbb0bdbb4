use Rattle.std.proofs.Common.{◌≡◌, drop, map}
use Rattle.sw_typing_rules.specs.Statements.{param_var}
use Rattle.sw_typing_rules.specs.Worlds.{world_of}
use Rattle.sw_typing_steps.specs.Variables.{with_variables}
use Rattle.sw_typing_steps.proofs.closures.declare_params.Given as goal

-- the table so far, with the parameters that are left
abbrev pub invariant-loop-param : goal.invariant-loop-param
invariant-loop-param l =
    with_variables l.table (map (param_var (world_of l.world)) (drop l.param-index l.params))
    ≡ with_variables l.fn.table (map (param_var (world_of l.world)) l.params)
