use Rattle.sw_hue_facts.proofs.Ordered.{may_alike, ordered_same, unite_alike}
use Rattle.sw_hue_facts.proofs.laws.same_colours_unite_alike.Goals as goal

pub returns : goal.returns
returns c = record { may = may_alike; unite = unite_alike; ordered = ordered_same }
