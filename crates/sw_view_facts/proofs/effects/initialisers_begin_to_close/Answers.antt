use Rattle.sw_view_facts.proofs.StepLemmas.{effect_closes}
use Rattle.sw_view_facts.proofs.effects.initialisers_begin_to_close.Goals as goal

pub returns : goal.returns
returns c = effect_closes
