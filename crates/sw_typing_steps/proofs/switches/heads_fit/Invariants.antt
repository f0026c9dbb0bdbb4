use Rattle.std.proofs.Common.{◌≡◌, drop, map}
use Rattle.std.specs.Option.{option_copied}
use Rattle.sw_typing_rules.specs.Statements.{heads_fit}
use Rattle.sw_typing_steps.specs.Switches.{head_at}
use Rattle.sw_typing_steps.proofs.switches.heads_fit.Given as goal

-- what the arms that are left say
abbrev pub invariant-loop-arm : goal.invariant-loop-arm
invariant-loop-arm l = heads_fit (option_copied l.cases) (map head_at (drop l.arm-index l.arms))
    ≡ heads_fit (option_copied l.cases) (map head_at l.arms)
