use Rattle.sw_see_draw.proofs.DrawnLemmas.{drawn_covers}
use Rattle.sw_see_draw.proofs.laws.drawn_marks_cover_last_events.Goals as goal

pub returns : goal.returns
returns c = record { covers = drawn_covers }
