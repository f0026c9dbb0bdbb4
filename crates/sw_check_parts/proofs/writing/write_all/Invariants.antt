use Rattle.std.proofs.Common.{◌≡◌, length}
use Rattle.sw_check_parts.proofs.WriteLemmas.{IsPartWritten}
use Rattle.sw_check_parts.proofs.writing.write_all.Given as goal

abbrev pub invariant-loop-rest : goal.invariant-loop-rest
invariant-loop-rest g l = record {
  steady : g.K.Sink.faults l.out ≡ g.K.Sink.faults l.fn.out;
  part : IsPartWritten l.bytes l.rest (g.K.Sink.written l.fn.out) (g.K.Sink.written l.out);
}

abbrev pub decreases-loop-rest : goal.decreases-loop-rest
decreases-loop-rest g l = length l.rest
