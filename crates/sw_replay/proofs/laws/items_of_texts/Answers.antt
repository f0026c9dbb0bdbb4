use Rattle.sw_replay.proofs.ScheduleLaws.{IsItems-fit, IsItems-few}
use Rattle.sw_replay.proofs.laws.items_of_texts.Goals as goal

pub returns-clause-fit : goal.returns-clause-fit
returns-clause-fit c = IsItems-fit

pub returns-clause-few : goal.returns-clause-few
returns-clause-few c = IsItems-few
