use Rattle.std.proofs.Common.{take}
use Rattle.sw_value.specs.Busy.{IsBusy}
use Rattle.sw_value.proofs.busy.busy_of.Given as goal

abbrev pub invariant-loop-job : goal.invariant-loop-job
invariant-loop-job l = IsBusy l.busy (take l.job-index l.job-items)
