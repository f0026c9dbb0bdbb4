use Rattle.sw_machine_name_facts.proofs.Places.{places_name, fixed_name}
use Rattle.sw_machine_name_facts.proofs.laws.places_are_filled_in_three_ways.Goals as goal

pub returns : goal.returns
returns c = record { places = places_name; fixed = fixed_name }
