use Rattle.sw_lower_first_facts.proofs.Isolated.Firsts.{entry_first, starts_first}
use Rattle.sw_lower_first_facts.proofs.Quiet.Alone.{firsts_alone}
use Rattle.sw_lower_first_facts.proofs.Storing.Firsts.{starts_store}
use Rattle.sw_lower_first_facts.proofs.laws.first_values_are_given.Goals as goal

pub returns : goal.returns
returns c = record {
  entry = entry_first;
  firsts = starts_first;
  values = starts_store;
  alone = firsts_alone;
}
