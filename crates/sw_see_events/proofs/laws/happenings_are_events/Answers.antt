use Rattle.sw_see_events.proofs.HappeningLemmas.{noted_events}
use Rattle.sw_see_events.proofs.laws.happenings_are_events.Goals as goal

pub returns : goal.returns
returns c = noted_events
