use Rattle.sw_color.proofs.TurnLemmas.{roots_taken}
use Rattle.sw_color.proofs.names.take_back.Goals as goal

pub returns : goal.returns
returns c = rw (← c.names.view_is)
    (roots_taken c.pop.result c.names.inside.parents c.pop.new.self c.pop.ensures)
