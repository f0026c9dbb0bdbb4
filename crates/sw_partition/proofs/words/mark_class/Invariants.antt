use Rattle.sw_partition.proofs.Marking.{IsMarking}
use Rattle.sw_partition.proofs.words.mark_class.Given as goal

abbrev pub invariant-loop-p : goal.invariant-loop-p
invariant-loop-p l = IsMarking l.labels l.label l.width l.column l.fn.words l.words l.p
