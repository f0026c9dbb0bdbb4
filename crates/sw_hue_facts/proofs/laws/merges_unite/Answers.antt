use Rattle.sw_hue_facts.proofs.Uniting.{merges_unite}
use Rattle.sw_hue_facts.proofs.laws.merges_unite.Goals as goal

pub returns : goal.returns
returns c = merges_unite
