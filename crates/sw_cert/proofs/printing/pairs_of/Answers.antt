use Rattle.std.proofs.Common.{◌+◌, sym, subst}
use Rattle.sw_cert.proofs.Gathered.{row_empty}
use Rattle.sw_cert.proofs.printing.pairs_of.Goals.{then-is_some+in_ok-add_pairs_of, else-is_some}
use Rattle.sw_cert.proofs.printing.pairs_of.Goals as goal
use Rattle.sw_cert.specs.Shown.{ArePairsBelow}

pub loop-element-preserved : goal.loop-element-preserved
loop-element-preserved c = elim c.if-is_some.branch [
  | then-is_some+in_ok-add_pairs_of w ↦ subst
      (ArePairsBelow c.args.state.now (c.loop-element.element + 1)) (sym w.pairs-is)
      w.in_ok-add_pairs_of.ensures
  | else-is_some w ↦ subst (ArePairsBelow c.args.state.now (c.loop-element.element + 1))
      (sym w.pairs-is)
      (row_empty c.args.state.now c.loop-element.element c.loop-element.pairs
      c.loop-element.invariant
      (λ some. absurd (cc (w.if-is_some.false, c.is_some.ensures, c.need.ensures.given.1 some))))
]
