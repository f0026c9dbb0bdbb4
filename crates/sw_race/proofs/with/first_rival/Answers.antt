use Rattle.std.proofs.Common.{length, ap, arith}
use Rattle.sw_value.specs.Machine.{Machine}
use Rattle.sw_race.proofs.WithLemmas.{rival_past}
use Rattle.sw_race.proofs.with.first_rival.Goals as goal

pub returns : goal.returns
returns c =
    let count = c.len-job-end.ensures in
    let same = ap (λ (m : Machine). length m.jobs) c.state.view_is in
    rival_past c.args.graph.now c.args.state.now c.args.access c.loop-job.job c.loop-job.invariant
    (omega (arith, count, same))
