use Rattle.sw_view_facts.proofs.StepLemmas as step
use Rattle.sw_view_facts.proofs.effects.effects_keep_soundness.Goals as goal

pub returns : goal.returns
returns c = record {
  goes_on = step.effect_goes_on;
  sets = step.effect_sets;
  freshens = step.effect_freshens;
}
