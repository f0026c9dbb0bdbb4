use Rattle.std.proofs.Common.{◌≡◌, drop}
use Rattle.std.specs.Option.{option_copied}
use Rattle.sw_typing_rules.specs.Statements.{pattern_types, pattern_vars}
use Rattle.sw_typing_steps.specs.Variables.{with_variables}
use Rattle.sw_typing_steps.proofs.switches.declare_all.Given as goal

-- the table so far, with the variables of the patterns that are left
abbrev pub invariant-loop-index : goal.invariant-loop-index
invariant-loop-index l =
    with_variables l.table (pattern_vars (drop l.index l.patterns)
    (drop l.index (pattern_types l.patterns (option_copied l.payload))))
    ≡ with_variables l.fn.table (pattern_vars l.patterns
    (pattern_types l.patterns (option_copied l.payload)))
