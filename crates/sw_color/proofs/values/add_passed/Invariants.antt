use Rattle.std.proofs.Common.{◌≡◌, ◌++◌, drop}
use Rattle.sw_color_rules.specs.Plans.{passed}
use Rattle.sw_color.proofs.values.add_passed.Given as goal

abbrev pub invariant-loop-index : goal.invariant-loop-index
invariant-loop-index l =
    l.numbers ++ passed l.tints (drop l.index l.sending) (drop l.index l.slot-items)
    ≡ l.fn.numbers ++ passed l.tints l.sending l.regs
