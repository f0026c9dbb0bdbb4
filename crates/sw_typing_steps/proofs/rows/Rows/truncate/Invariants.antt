use Rattle.std.proofs.Common.{◌≡◌, length, take}
use Rattle.sw_typing_steps.proofs.rows.Rows.truncate.Given as goal

-- as many rows as stay are as before
abbrev pub invariant-loop-self : goal.invariant-loop-self
invariant-loop-self l = take l.count l.self ≡ take l.count l.fn.self

abbrev pub decreases-loop-self : goal.decreases-loop-self
decreases-loop-self l = length l.self
