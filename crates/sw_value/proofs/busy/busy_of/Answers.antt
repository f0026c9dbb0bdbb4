use Rattle.sw_value.proofs.BusyLemmas.{busy_next}
use Rattle.sw_value.proofs.busy.busy_of.Goals as goal

pub loop-job-preserved : goal.loop-job-preserved
loop-job-preserved c =
    busy_next c.loop-job.busy c.occupy.new.busy c.as_slice-job-items.result.now c.loop-job.job-index
    c.job-item.result c.held.result c.loop-job-test.true c.job-item.is c.loop-job.invariant
    c.held.ensures c.in_ok-occupy.ensures.ok
