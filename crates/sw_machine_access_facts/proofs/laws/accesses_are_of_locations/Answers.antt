use Rattle.sw_value.proofs.AccessLemmas.{next_names_its_job}
use Rattle.sw_machine_access_facts.proofs.AccessLemmas as access
use Rattle.sw_machine_access_facts.proofs.laws.accesses_are_of_locations.Goals as goal

pub returns : goal.returns
returns c = record {
  job = next_names_its_job;
  location = access.access_location;
  read = access.access_has;
  parts = access.part_has;
  boxes = access.box_has;
}
