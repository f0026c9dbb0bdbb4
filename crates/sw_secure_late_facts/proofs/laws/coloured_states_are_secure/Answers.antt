use Rattle.sw_secure_late_facts.proofs.Coloured.{colored_keep_numbers, colored_late, colored_secure}
use Rattle.sw_secure_late_facts.proofs.laws.coloured_states_are_secure.Goals as goal

pub returns : goal.returns
returns c = record { secure = colored_secure; late = colored_late; numbers = colored_keep_numbers }
