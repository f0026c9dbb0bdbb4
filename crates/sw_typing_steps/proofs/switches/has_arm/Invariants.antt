use Rattle.std.proofs.Common.{◌≡◌, drop, map}
use Rattle.sw_typing_rules.specs.Statements.{has_arm}
use Rattle.sw_typing_steps.specs.Switches.{head_at}
use Rattle.sw_typing_steps.proofs.switches.has_arm.Given as goal

-- what the arms that are left say
abbrev pub invariant-loop-arm : goal.invariant-loop-arm
invariant-loop-arm l = has_arm (map head_at (drop l.arm-index l.arms)) l.one
    ≡ has_arm (map head_at l.arms) l.one
