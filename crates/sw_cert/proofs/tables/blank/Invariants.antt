use Rattle.std.proofs.Common.{◌≡◌, None, replicate}
use Rattle.sw_cert.proofs.tables.blank.Given as goal

abbrev pub invariant-loop : goal.invariant-loop
invariant-loop l = l.table ≡ replicate l.counter None
