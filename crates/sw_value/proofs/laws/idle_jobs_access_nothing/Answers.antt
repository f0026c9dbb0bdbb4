use Rattle.sw_value.proofs.AccessLemmas.{idle_accesses_nothing}
use Rattle.sw_value.proofs.laws.idle_jobs_access_nothing.Goals as goal

pub returns : goal.returns
returns c = record { idle = idle_accesses_nothing }
