use Rattle.sw_view_facts.proofs.TakenLemmas.{taken_keeps}
use Rattle.sw_view_facts.proofs.effects.parts_are_taken.Goals as goal

pub returns : goal.returns
returns c = taken_keeps
