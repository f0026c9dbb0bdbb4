use Rattle.sw_value.proofs.TransitionLemmas.{transition_describes}
use Rattle.sw_value.proofs.laws.transitions_describe.Goals as goal

pub returns : goal.returns
returns c = record { describes = transition_describes }
