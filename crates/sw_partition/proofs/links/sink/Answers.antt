use Rattle.std.proofs.Common.{ℕ, ◌+◌, List, subst, sym, arith}
use Rattle.sw_partition.proofs.Linking.{IsSinking, sinking_starts, sinking_stays, sinking_links}
use Rattle.sw_partition.proofs.Linking.{sinking_ends}
use Rattle.sw_partition.proofs.links.sink.Goals.{then-label-x, else-label-x}
use Rattle.sw_partition.proofs.links.sink.Goals as goal

pub loop-x-init : goal.loop-x-init
loop-x-init c = sinking_starts c.args.labels.now

pub loop-x-preserved : goal.loop-x-preserved
loop-x-preserved c = elim c.if-label-x.branch [
  | then-label-x w ↦ subst (λ (v : List ℕ). IsSinking c.args.labels.now v (c.loop-x.x + 1))
      (sym w.labels-is) (sinking_links c.args.labels.now c.loop-x.labels c.loop-x.x _
      (omega arith) c.requires w.if-label-x.true w.min-first.ensures c.loop-x.invariant)
  | else-label-x w ↦ subst (λ (v : List ℕ). IsSinking c.args.labels.now v (c.loop-x.x + 1))
      (sym w.labels-is) (sinking_stays c.args.labels.now c.loop-x.labels c.loop-x.x
      (omega (arith, w.if-label-x.false)) c.loop-x.invariant)
]

pub returns : goal.returns
returns c = sinking_ends _ _ c.loop-x.x (omega (arith, c.loop-x-test.false)) c.loop-x.invariant
