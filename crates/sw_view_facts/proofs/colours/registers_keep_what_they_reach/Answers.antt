use Rattle.sw_view_facts.proofs.EffectLemmas as effect
use Rattle.sw_view_facts.proofs.NewLemmas.{registers_name}
use Rattle.sw_view_facts.proofs.colours.registers_keep_what_they_reach.Goals as goal

pub returns : goal.returns
returns c = record {
  same = effect.reach_same;
  written = effect.reach_written;
  added = effect.reach_added;
  named = registers_name;
}
