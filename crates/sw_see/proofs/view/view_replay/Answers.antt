use Rattle.sw_check.specs.Programs.{seen_graph}
use Rattle.sw_see.specs.View.{lent_view}
use Rattle.sw_see.proofs.PartLemmas.{viewed}
use Rattle.sw_see.proofs.view.view_replay.Goals as goal

pub returns : goal.returns
returns c =
    viewed (lent_view c.args.view) c.args.text.now (seen_graph c.args.made.now) c.args.items.now
    c.in_ok-watched.watched _ c.in_ok-watched.ensures.watched c.view_watched.ensures
