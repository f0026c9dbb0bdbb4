use Rattle.sw_secure_job_facts.proofs.Endings.{returns_stay}
use Rattle.sw_secure_job_facts.proofs.Traps.{traps_stay}
use Rattle.sw_secure_job_facts.proofs.laws.returns_stay_secure.Goals as goal

pub returns : goal.returns
returns c = record { returns = returns_stay; traps = traps_stay }
