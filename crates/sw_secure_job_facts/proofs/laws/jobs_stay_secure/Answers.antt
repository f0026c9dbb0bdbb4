use Rattle.sw_secure_job_facts.proofs.Jobs.{dispatches_stay, wakes_stay}
use Rattle.sw_secure_job_facts.proofs.laws.jobs_stay_secure.Goals as goal

pub returns : goal.returns
returns c = record { dispatches = dispatches_stay; wakes = wakes_stay }
