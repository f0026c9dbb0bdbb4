use Rattle.sw_machine_name_facts.proofs.Going.{jobs_name, results_name, executors_stand}
use Rattle.sw_machine_name_facts.proofs.laws.names_go_from_place_to_place.Goals as goal

pub returns : goal.returns
returns c = record { jobs = jobs_name; results = results_name; executors = executors_stand }
