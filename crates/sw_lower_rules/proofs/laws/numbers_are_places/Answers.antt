use Rattle.sw_lower_rules.proofs.Numbers.{number_named, number_within}
use Rattle.sw_lower_rules.proofs.laws.numbers_are_places.Goals as goal

pub returns : goal.returns
returns c = record { within = number_within; named = number_named }
