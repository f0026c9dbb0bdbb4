use Rattle.std.proofs.Common.{◌≡◌, ◌++◌, take}
use Rattle.std.specs.List.{flat_map}
use Rattle.sw_color_rules.specs.Tints.{colors_in}
use Rattle.sw_color.proofs.values.+add_colors.Given as goal

abbrev pub invariant-loop-part : goal.invariant-loop-part
invariant-loop-part l =
    l.numbers ≡ l.fn.numbers ++ flat_map (colors_in l.tints) (take l.part-index l.part-items)

abbrev pub invariant-loop-held : goal.invariant-loop-held
invariant-loop-held l =
    l.numbers ≡ l.fn.numbers ++ flat_map (colors_in l.tints) (take l.held-index l.held-items)
