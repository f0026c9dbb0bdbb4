use Rattle.sw_reach_facts.proofs.CellLemmas.{reference_shows}
use Rattle.sw_reach_facts.proofs.ClosureLemmas.{reference_captures, capture_within}
use Rattle.sw_reach_facts.proofs.laws.cells_show_colours.Goals as goal

pub returns : goal.returns
returns g c = record { own = reference_shows; closure = reference_captures; capture = capture_within }
