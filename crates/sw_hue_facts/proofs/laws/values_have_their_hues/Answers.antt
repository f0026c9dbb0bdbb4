use Rattle.sw_hue_facts.proofs.Passed.{passed_same}
use Rattle.sw_hue_facts.proofs.Tinted.{reference_same, value_same, values_same}
use Rattle.sw_hue_facts.proofs.laws.values_have_their_hues.Goals as goal

pub returns : goal.returns
returns c = record {
  reference = reference_same;
  value = value_same;
  values = values_same;
  passed = passed_same;
}
