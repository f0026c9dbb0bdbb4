use Rattle.sw_view_facts.proofs.KeptColourLemmas.{some_kept}
use Rattle.sw_view_facts.proofs.colours.some_colour_is_kept.Goals as goal

pub returns : goal.returns
returns c = some_kept
