use Rattle.sw_machine_kind_facts.proofs.StackLemmas as stack
use Rattle.sw_machine_kind_facts.proofs.laws.kinded_states_fit.Goals as goal

pub returns : goal.returns
returns c = record { frames = stack.frame_at; cells = stack.cell_named }
