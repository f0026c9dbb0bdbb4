use Rattle.std.proofs.Common.{◌≡◌, ◌++◌, take}
use Rattle.sw_color.proofs.values.add_numbers.Given as goal

abbrev pub invariant-loop-number : goal.invariant-loop-number
invariant-loop-number l = l.numbers ≡ l.fn.numbers ++ take l.number-index l.more
