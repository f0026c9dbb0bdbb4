use Rattle.std.proofs.Common.{◌≡◌, take}
use Rattle.sw_decl_values.specs.Values.{set_in}
use Rattle.sw_decl_values.proofs.values.set_in.Given as goal

abbrev pub invariant-loop-stmt : goal.invariant-loop-stmt
invariant-loop-stmt l = l.names ≡ set_in (take l.stmt-index l.stmts)
