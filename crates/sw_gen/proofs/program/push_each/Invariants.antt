use Rattle.std.proofs.Common.{◌≡◌, ◌++◌, ◌+◌, ◌-◌, flat_map}
use Rattle.std.specs.List.{range_with_len}
use Rattle.sw_gen.specs.Program.{filled}
use Rattle.sw_gen.proofs.program.push_each.Given as goal

-- the text so far and the templates of the numbers that are left are the whole
abbrev pub invariant-loop-number : goal.invariant-loop-number
invariant-loop-number l =
    l.text.items ++ flat_map (filled l.template) (range_with_len l.number (l.n + 1 - l.number))
    ≡ l.fn.text.items ++ flat_map (filled l.template) (range_with_len 1 l.n)
