use Rattle.sw_owned_facts.proofs.Keeping.{actors_apart, keeps}
use Rattle.sw_owned_facts.proofs.laws.actors_keep_their_colours.Goals as goal

pub returns : goal.returns
returns c = record { kept = keeps; apart = actors_apart }
