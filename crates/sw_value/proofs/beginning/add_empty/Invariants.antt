use Rattle.std.proofs.Common.{◌≡◌, ◌++◌, None, replicate}
use Rattle.sw_value.proofs.beginning.add_empty.Given as goal

abbrev pub invariant-loop-slot : goal.invariant-loop-slot
invariant-loop-slot l = l.slots ≡ l.fn.slots ++ replicate l._slot None
