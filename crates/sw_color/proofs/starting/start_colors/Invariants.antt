use Rattle.std.proofs.Common.{◌≡◌, fold, take}
use Rattle.sw_color_rules.specs.Machine.{first_colors, started}
use Rattle.sw_color.proofs.starting.start_colors.Given as goal

abbrev pub invariant-loop-frame : goal.invariant-loop-frame
invariant-loop-frame l =
    l.colors ≡ fold started (first_colors l.graph) (take l.frame-index l.frame-items)
