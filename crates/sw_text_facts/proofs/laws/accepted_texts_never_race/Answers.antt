use Rattle.sw_text_facts.proofs.Sound.{accepted_never_races}
use Rattle.sw_text_facts.proofs.laws.accepted_texts_never_race.Goals as goal

pub returns : goal.returns
returns c = accepted_never_races
