use Rattle.sw_secure_job_facts.proofs.Tasks.{tasks_paint, tasks_stay}
use Rattle.sw_secure_job_facts.proofs.laws.tasks_stay_secure.Goals as goal

pub returns : goal.returns
returns c = record { stays = tasks_stay; paints = tasks_paint }
