use Rattle.sw_lower_return_facts.proofs.Returning.{all_return}
use Rattle.sw_lower_return_facts.proofs.laws.functions_return_their_results.Goals as goal

-- src/laws.rt:19:1
pub returns : goal.returns
returns c = all_return
