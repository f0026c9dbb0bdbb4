use Rattle.sw_before.proofs.EventLemmas.{events_push, events_named}
use Rattle.sw_before.proofs.laws.events_grow.Goals as goal

pub returns : goal.returns
returns c = record { one_more = events_push; named = events_named }
