use Rattle.std.proofs.Common.{◌+◌, List, ℕ, sym, subst, arith}
use Rattle.sw_partition.proofs.Marking.{IsMarking, marking_skips, marking_sets, marking_ends}
use Rattle.sw_partition.proofs.words.mark_class.Goals.{then-labels-p, else-labels-p}
use Rattle.sw_partition.proofs.words.mark_class.Goals as goal

pub loop-p-preserved : goal.loop-p-preserved
loop-p-preserved c = elim c.if-labels-p.branch [
  | then-labels-p w ↦ subst
      (λ (v : List ℕ). IsMarking c.args.labels.now c.args.label c.args.width c.args.column
      c.args.words.now v (c.loop-p.p + 1)) (sym w.words-is)
      (marking_sets _ _ _ _ _ c.loop-p.words _ _
      (omega arith) c.requires.column w.if-labels-p.true w.mark.ensures c.loop-p.invariant)
  | else-labels-p w ↦ subst
      (λ (v : List ℕ). IsMarking c.args.labels.now c.args.label c.args.width c.args.column
      c.args.words.now v (c.loop-p.p + 1)) (sym w.words-is)
      (marking_skips _ _ _ _ _ c.loop-p.words _ w.if-labels-p.false c.loop-p.invariant)
]

pub returns : goal.returns
returns c = marking_ends _ _ _ _ _ _ c.loop-p.p (omega arith) c.loop-p.invariant
