use Rattle.std.proofs.Common.{◌≡◌, take, map}
use Rattle.sw_race.specs.Target.{job_target}
use Rattle.sw_race.proofs.index.RaceIndex.new.Given as goal

abbrev pub invariant-loop-job : goal.invariant-loop-job
invariant-loop-job l = l.index ≡ map (job_target l.graph) (take l.job-index l.job-items)
