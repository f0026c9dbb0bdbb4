use Rattle.sw_owned_facts.proofs.Owned.{colored_owned}
use Rattle.sw_owned_facts.proofs.laws.coloured_states_are_owned.Goals as goal

pub returns : goal.returns
returns c = colored_owned
