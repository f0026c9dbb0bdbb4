use Rattle.std.proofs.Common.{take}
use Rattle.sw_cert.specs.Stating.{IsGivenAll}
use Rattle.sw_cert.proofs.states.give_all.Given as goal

abbrev pub invariant-loop-pair : goal.invariant-loop-pair
invariant-loop-pair l = IsGivenAll l.fn.state (take l.pair-index l.pairs) l.state
