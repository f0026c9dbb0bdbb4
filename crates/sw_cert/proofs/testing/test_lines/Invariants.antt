use Rattle.std.proofs.Common.{take}
use Rattle.std.specs.List.{AllByRecursion}
use Rattle.sw_cert.specs.Tests.{HoldsBy}
use Rattle.sw_cert.proofs.testing.test_lines.Given as goal

abbrev pub invariant-loop-n : goal.invariant-loop-n
invariant-loop-n l = AllByRecursion (HoldsBy l.flows l.tables) (take l.n l.lines)
