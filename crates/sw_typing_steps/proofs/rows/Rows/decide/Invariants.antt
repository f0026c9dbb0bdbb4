use Rattle.std.proofs.Common.{◌≡◌, length}
use Rattle.sw_typing_steps.specs.Steps.{decided_since}
use Rattle.sw_typing_steps.proofs.rows.Rows.decide.Given as goal

-- what was decided, with what is left to decide, is the whole
abbrev pub invariant-loop-index : goal.invariant-loop-index
invariant-loop-index l = (length l.self ≡ length l.fn.self)
    × (decided_since l.index l.valued l.self ≡ decided_since l.start l.valued l.fn.self)
