use Rattle.std.proofs.Common.{ℕ, ◌<◌}
use Rattle.sw_cert.specs.Tests.{EntersBy}
use Rattle.sw_cert.proofs.testing.first_not_entered.Given as goal

abbrev pub invariant-loop-function : goal.invariant-loop-function
invariant-loop-function l = (other : ℕ) → other < l.function → EntersBy l.flows l.tables other
