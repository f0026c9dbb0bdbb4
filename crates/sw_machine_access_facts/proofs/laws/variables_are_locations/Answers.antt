use Rattle.sw_machine_access_facts.proofs.LocationLemmas as location
use Rattle.sw_machine_access_facts.proofs.laws.variables_are_locations.Goals as goal

pub returns : goal.returns
returns c = record {
  boxes = location.box_is;
  globals = location.global_is;
  objects = location.object_is;
  actors = location.actor_is;
}
