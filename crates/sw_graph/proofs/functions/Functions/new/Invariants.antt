use Rattle.std.proofs.Common.{◌≡◌, map, take}
use Rattle.sw_graph.specs.Table.{table_of}
use Rattle.sw_graph.proofs.functions.Functions.new.Given as goal

abbrev pub invariant-loop-function : goal.invariant-loop-function
invariant-loop-function l = l.tables ≡ map table_of (take l.function-index l.function-items)
