use Rattle.sw_owned_facts.proofs.Apart.{one_job}
use Rattle.sw_owned_facts.proofs.laws.owned_jobs_share_no_colour.Goals as goal

pub returns : goal.returns
returns c = one_job
