use Rattle.std.proofs.Common.{sym, subst, arith}
use Rattle.std.proofs.lemmas.List.{take_more}
use Rattle.sw_solve.specs.Work.{IsSpread}
use Rattle.sw_solve.proofs.Spreading.{spread_append}
use Rattle.sw_solve.proofs.worklist.spread.Goals as goal

pub loop-target-preserved : goal.loop-target-preserved
loop-target-preserved g c = record {
  spread = subst (λ ts. IsSpread g.T.Lattice.le g.T.Lattice.size g.T.Lattice.rank ts
      c.args.value.now c.args.slots.now.items c.offer.new.slots.items c.args.list.now
      c.offer.new.list) (sym
      (take_more c.args.targets.now c.loop-target.target-index 0 (omega arith)))
      (spread_append g.T.Lattice.le g.T.Lattice.size g.T.Lattice.rank g.met.T.Lattice.transitive _ _
      c.args.value.now _ _ _ _ _ _ c.loop-target.invariant.spread c.in_ok-offer.ensures.spread);
  counted = omega (arith, c.in_ok-offer.ensures.counted);
}
