use Rattle.std.proofs.Common.{◌≡◌, drop, map}
use Rattle.std.specs.List.{list_all}
use Rattle.sw_typing_rules.specs.Statements.{has_arm}
use Rattle.sw_typing_steps.specs.Switches.{head_at}
use Rattle.sw_typing_steps.proofs.switches.have_arms.Given as goal

-- what the cases that are left say
abbrev pub invariant-loop-one : goal.invariant-loop-one
invariant-loop-one l = list_all (has_arm (map head_at l.arms)) (drop l.one-index l.cases)
    ≡ list_all (has_arm (map head_at l.arms)) l.cases
