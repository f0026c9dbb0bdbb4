use Rattle.std.proofs.Common.{◌≡◌}
use Rattle.sw_see_find.proofs.walking.Walk.go_on.Given as goal

-- no job could go on so far
abbrev pub invariant-loop-k : goal.invariant-loop-k
invariant-loop-k l = l.self ≡ l.fn.self
