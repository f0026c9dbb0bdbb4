use Rattle.std.proofs.Common.{refl}
use Rattle.sw_solve.proofs.Solving.{solving_starts, solving_more, work_falls, within_bound}
use Rattle.sw_solve.proofs.Solving.{within_bound_now, solved_closed, solved_least, solved_ways}
use Rattle.sw_solve.proofs.Solving.{before_visit, fewer_left}
use Rattle.sw_solve.proofs.worklist.solve.Goals as goal

pub loop-point-init : goal.loop-point-init
loop-point-init g c =
    solving_starts _ (record {
      reflexive = g.met.F.Fact.Lattice.reflexive;
      transitive =
          g.met.F.Fact.Lattice.transitive;
      one_entry =
          g.met.F.Flow.one_entry c.args.flow.now;
      monotone = g.met.F.Flow.monotone c.args.flow.now;
    })
    _ c.points-count.result _ c.in_ok-slots.slots.items c.in_ok-list.list c.push.new.self
    c.in_ok-entry.field-0 c.requires c.points-count.ensures c.in_ok-slots.ensures
    c.in_ok-entry.ensures.enters c.in_ok-entry.ensures.size c.in_ok-list.ensures.points
    c.in_ok-list.ensures.room c.in_ok-push.ensures.there c.in_ok-push.ensures.room
    c.in_ok-push.ensures.weight

pub loop-point-preserved : goal.loop-point-preserved
loop-point-preserved g c =
    solving_more _ (record {
      reflexive = g.met.F.Fact.Lattice.reflexive;
      transitive =
          g.met.F.Fact.Lattice.transitive;
      one_entry =
          g.met.F.Flow.one_entry c.args.flow.now;
      monotone = g.met.F.Flow.monotone c.args.flow.now;
    })
    _ _ c.loop-point.slots.items c.visit.new.slots.items _ c.in-Some.point _ c.loop-point.steps _ _
    _ refl c.in_ok-visit.ensures.visited c.in_ok-visit.ensures.counted
    (before_visit _ _ _ _ c.loop-point.list c.pop.new.self _ _ c.in-Some.ensures.points
    c.in-Some.ensures.room c.loop-point.invariant)

pub loop-point-smaller : goal.loop-point-smaller
loop-point-smaller g c =
    fewer_left g.F.Fact.Lattice.rank _ _ c.loop-point.slots.items c.loop-point.list c.pop.new.self _
    _ c.in-Some.ensures.points
    (work_falls _ g.F.Fact.Lattice.height g.met.F.Fact.Lattice.bounded _ c.args.steps.now
    c.loop-point.slots.items c.visit.new.slots.items _ c.in-Some.point _ c.loop-point.steps
    c.visit.new.steps _ _ c.in_ok-visit.ensures.visited
    (loop-point-preserved g c))

pub returns-in_err-visit-clause-joins : goal.returns-in_err-visit-clause-joins
returns-in_err-visit-clause-joins g c =
    within_bound _ g.F.Fact.Lattice.height g.met.F.Fact.Lattice.bounded _ _ c.loop-point.slots.items
    _ c.in-Some.point _ c.loop-point.steps _
    (before_visit _ _ _ _ c.loop-point.list c.pop.new.self _ _ c.in-Some.ensures.points
    c.in-Some.ensures.room c.loop-point.invariant) c.in_err-visit.ensures.counted

pub returns-clause-closed : goal.returns-clause-closed
returns-clause-closed g c =
    rw c.of_values.ensures (solved_closed _ _ _ c.loop-point.slots.items c.loop-point.list _
    c.in_default.ensures.points c.loop-point.invariant)

pub returns-clause-least : goal.returns-clause-least
returns-clause-least g c =
    rw c.of_values.ensures
    (solved_least _ (record {
      reflexive = g.met.F.Fact.Lattice.reflexive;
      transitive =
          g.met.F.Fact.Lattice.transitive;
      one_entry =
          g.met.F.Flow.one_entry c.args.flow.now;
      monotone = g.met.F.Flow.monotone c.args.flow.now;
    })
    _ _ c.loop-point.slots.items c.loop-point.list _ c.loop-point.invariant)

pub returns-clause-lowest : goal.returns-clause-lowest
returns-clause-lowest g c =
    rw c.of_values.ensures (λ a bounds. c.loop-point.invariant.lowest a bounds)

pub returns-clause-reached : goal.returns-clause-reached
returns-clause-reached g c =
    rw c.of_values.ensures (solved_ways _ _ _ c.loop-point.slots.items c.loop-point.list _
    c.in_default.ensures.points c.loop-point.invariant)

pub returns-clause-joins : goal.returns-clause-joins
returns-clause-joins g c =
    within_bound_now _ g.F.Fact.Lattice.height g.met.F.Fact.Lattice.bounded _ _
    c.loop-point.slots.items c.loop-point.list _ c.loop-point.invariant
