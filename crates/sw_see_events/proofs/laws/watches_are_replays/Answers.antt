use Rattle.sw_see_events.proofs.WatchLemmas.{is_replay}
use Rattle.sw_see_events.proofs.laws.watches_are_replays.Goals as goal

pub returns : goal.returns
returns c = is_replay
