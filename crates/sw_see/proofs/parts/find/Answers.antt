use Rattle.sw_see.proofs.PartLemmas.{searched}
use Rattle.sw_see.proofs.parts.find.Goals as goal

pub returns : goal.returns
returns c =
    searched c.args.graph.now c.in_ok-found.found _ c.in_ok-found.ensures c.tell_found.ensures
