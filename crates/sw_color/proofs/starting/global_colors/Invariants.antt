use Rattle.std.proofs.Common.{◌≡◌}
use Rattle.sw_color_rules.specs.Machine.{global_colors}
use Rattle.sw_color.proofs.starting.global_colors.Given as goal

abbrev pub invariant-loop-actor : goal.invariant-loop-actor
invariant-loop-actor l = l.colors ≡ global_colors l.actor
