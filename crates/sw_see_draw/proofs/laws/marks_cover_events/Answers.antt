use Rattle.sw_see_draw.proofs.MarkLemmas.{covers}
use Rattle.sw_see_draw.proofs.laws.marks_cover_events.Goals as goal

pub returns : goal.returns
returns c = record { covers = covers }
