use Rattle.std.proofs.Common.{◌≡◌}
use Rattle.sw_breach.specs.LineStarts.{AreLineStarts}
use Rattle.sw_see_lines.proofs.table.line_starts.Given as goal

abbrev pub invariant-loop-byte : goal.invariant-loop-byte
invariant-loop-byte l = record {
  next : l.next ≡ l.byte-index;
  starts : AreLineStarts l.bytes l.byte-index l.starts.items;
}
