use Rattle.sw_color.proofs.RootLemmas.{climbs_end}
use Rattle.sw_color.proofs.names.name.Goals as goal

pub returns-clause-left : goal.returns-clause-left
returns-clause-left c = rw (← c.names.view_is)
    (climbs_end c.names.inside.parents c.root.result c.root.ensures.root)
