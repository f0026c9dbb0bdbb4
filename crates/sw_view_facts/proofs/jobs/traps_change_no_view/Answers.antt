use Rattle.sw_view_facts.proofs.HaltLemmas.{halt_same}
use Rattle.sw_view_facts.proofs.jobs.traps_change_no_view.Goals as goal

pub returns : goal.returns
returns c = halt_same
