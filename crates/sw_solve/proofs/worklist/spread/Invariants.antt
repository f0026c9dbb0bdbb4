use Rattle.std.proofs.Common.{◌+◌, ◌≤◌, take}
use Rattle.sw_solve.specs.Work.{IsSpread}
use Rattle.sw_solve.proofs.worklist.spread.Given as goal

abbrev pub invariant-loop-target : goal.invariant-loop-target
invariant-loop-target g l = record {
  spread : IsSpread g.T.Lattice.le g.T.Lattice.size g.T.Lattice.rank
      (take l.target-index l.targets) l.value l.fn.slots.items l.slots.items l.fn.list l.list;
  counted : l.steps ≤ l.fn.steps + l.target-index;
}
