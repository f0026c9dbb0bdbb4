use Rattle.std.proofs.Common.{◌≡◌, map, take}
use Rattle.sw_cert.specs.Tables.{blank_for}
use Rattle.sw_cert.proofs.tables.blanks.Given as goal

abbrev pub invariant-loop-flow : goal.invariant-loop-flow
invariant-loop-flow l = l.tables ≡ map blank_for (take l.flow-index l.flows)
