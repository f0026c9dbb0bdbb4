use Rattle.std.proofs.Common.{◌≡◌}
use Rattle.sw_graph.proofs.TableLemmas.{IsBegun}
use Rattle.sw_graph.proofs.table.PointTable.new.Given as goal

abbrev pub invariant-loop-block : goal.invariant-loop-block
invariant-loop-block l = record {
  numbered : l.number ≡ l.block-index;
  begun : IsBegun l.block-items l.number (record { places = l.places; starts = l.starts });
}
