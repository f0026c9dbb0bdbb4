use Rattle.sw_solve.proofs.Solving.{IsSolving, work_left}
use Rattle.sw_solve.proofs.worklist.solve.Given as goal

abbrev pub invariant-loop-point : goal.invariant-loop-point
invariant-loop-point g l =
    IsSolving (record {
      le = g.F.Fact.Lattice.le;
      size = g.F.Fact.Lattice.size;
      rank =
          g.F.Fact.Lattice.rank;
      facts = g.F.Flow.fact_size l.fn.flow;
      enters =
          g.F.Flow.enters l.fn.flow;
      leads = g.F.Flow.leads l.fn.flow;
      successors =
          g.F.Flow.successors l.fn.flow;
    })
    (g.F.Flow.count l.fn.flow) l.fn.steps l.slots.items l.list l.steps

abbrev pub decreases-loop-point : goal.decreases-loop-point
decreases-loop-point g l =
    work_left g.F.Fact.Lattice.rank (g.F.Flow.count l.fn.flow)
    (g.F.Fact.Lattice.height (g.F.Flow.fact_size l.fn.flow)) l.slots.items l.list
