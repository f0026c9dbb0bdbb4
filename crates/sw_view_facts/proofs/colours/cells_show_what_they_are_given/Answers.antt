use Rattle.sw_view_facts.proofs.NewLemmas.{bare_shows, new_shows}
use Rattle.sw_view_facts.proofs.colours.cells_show_what_they_are_given.Goals as goal

pub returns : goal.returns
returns c = record { bare = bare_shows; own = new_shows }
