use Rattle.std.proofs.Common.{◌≡◌, ◌≤◌, count_by, take}
use Rattle.sw_replay.specs.Output.{has_ended}
use Rattle.sw_replay.proofs.playing.count_ended.Given as goal

abbrev pub invariant-loop-job : goal.invariant-loop-job
invariant-loop-job l =
    (l.ended ≡ count_by has_ended (take l.job-index l.jobs)) × (l.ended ≤ l.job-index)
