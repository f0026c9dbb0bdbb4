use Rattle.sw_secure_job_facts.proofs.Starts.{starts_secure}
use Rattle.sw_secure_job_facts.proofs.laws.starts_are_secure.Goals as goal

pub returns : goal.returns
returns c = starts_secure
