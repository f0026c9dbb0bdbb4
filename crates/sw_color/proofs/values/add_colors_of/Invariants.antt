use Rattle.std.proofs.Common.{◌≡◌, ◌++◌, take}
use Rattle.std.specs.List.{flat_map}
use Rattle.sw_color_rules.specs.Tints.{colors_in}
use Rattle.sw_color.proofs.values.add_colors_of.Given as goal

abbrev pub invariant-loop-value : goal.invariant-loop-value
invariant-loop-value l =
    l.numbers ≡ l.fn.numbers ++ flat_map (colors_in l.tints) (take l.value-index l.values)
