use Rattle.std.proofs.Common.{ap, length, arith}
use Rattle.sw_value.specs.Machine.{Machine}
use Rattle.sw_race.proofs.LeastLemmas.{least_found, none_at_all}
use Rattle.sw_race.proofs.with.least_race.Goals as goal

pub returns-in-Some : goal.returns-in-Some
returns-in-Some c =
    least_found c.args.graph.now c.args.state.now c.loop-number.number c.in-Some.race
    c.loop-number.invariant c.in-Some.ensures

pub returns : goal.returns
returns c =
    let count = c.len-number-end.ensures in
    let same = ap (λ (m : Machine). length m.jobs) c.state.view_is in
    none_at_all c.args.graph.now c.args.state.now c.loop-number.number c.loop-number.invariant
    (omega (arith, count, same))
