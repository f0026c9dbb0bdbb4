use Rattle.std.proofs.Common.{None, subst, arith}
use Rattle.std.proofs.lemmas.List.{get_or_read}
use Rattle.sw_solve.specs.Work.{TakesIn}
use Rattle.sw_solve.proofs.Spreading.{spread_one, pushed_rose}
use Rattle.sw_solve.proofs.worklist.offer.Goals as goal

pub returns-in_ok-push-clause-spread : goal.returns-in_ok-push-clause-spread
returns-in_ok-push-clause-spread g c =
    let p = c.in_ok-push.ensures in
    spread_one g.T.Lattice.le g.T.Lattice.size g.T.Lattice.rank g.met.T.Lattice.reflexive
    c.args.value.now c.args.slots.now.items c.args.point c.merge.new.slot c.in_ok-merge.field-0
    _ _ (omega arith) c.requires.sized
    (subst (λ o. TakesIn g.T.Lattice.le g.T.Lattice.size g.T.Lattice.rank c.args.value.now o
    c.merge.new.slot c.in_ok-merge.field-0)
    (get_or_read c.args.slots.now.items c.args.point c.index_mut.result.now
    (omega arith) c.index_mut.ensures.value None) c.in_ok-merge.ensures.merged)
    (pushed_rose c.args.point c.in_ok-merge.field-0 _ _ c.if-branch.true p.room p.there p.kept
    p.weight)
