use Rattle.std.proofs.Common.{take}
use Rattle.sw_cert.specs.Tests.{IsAllBelow}
use Rattle.sw_cert.proofs.testing.includes_at_all.Given as goal

abbrev pub invariant-loop-block : goal.invariant-loop-block
invariant-loop-block l = IsAllBelow l.state l.table (take l.block-index l.blocks)
