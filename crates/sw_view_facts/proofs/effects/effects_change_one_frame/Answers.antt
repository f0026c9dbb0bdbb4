use Rattle.sw_view_facts.proofs.EffectLemmas as effect
use Rattle.sw_view_facts.proofs.effects.effects_change_one_frame.Goals as goal

pub returns : goal.returns
returns c = record {
  executed = effect.step_is;
  frame = effect.inside_changes;
  registers = effect.others_kept;
}
