use Rattle.sw_verdict.specs.Phases.{all_phases}
use Rattle.sw_verdict.proofs.Ordered.{breaches_in_order}
use Rattle.sw_verdict.proofs.Coded.{have_codes}
use Rattle.sw_verdict.proofs.OneLists.{few_found, one_list}
use Rattle.sw_verdict.proofs.Verdicts as verdicts
use Rattle.sw_verdict.proofs.laws.texts_have_one_verdict.Goals as goal

pub returns : goal.returns
returns c = record {
  decided = verdicts.decided;
  never_both = λ rule. verdicts.never_both rule all_phases;
  one_list = one_list;
  one_breach = few_found;
  in_order = breaches_in_order;
  codes = have_codes;
}
