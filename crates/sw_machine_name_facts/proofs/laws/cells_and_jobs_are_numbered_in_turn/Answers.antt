use Rattle.sw_machine_name_facts.proofs.Jobs.{jobs_stay}
use Rattle.sw_machine_name_facts.proofs.Numbers.{made_within, cells_stay, next_job}
use Rattle.sw_machine_name_facts.proofs.laws.cells_and_jobs_are_numbered_in_turn.Goals as goal

pub returns : goal.returns
returns c = record { cell = made_within; job = next_job; cells = cells_stay; jobs = jobs_stay }
