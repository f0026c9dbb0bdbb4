use Rattle.sw_before.proofs.ChannelLemmas.{leads_by_channel}
use Rattle.sw_before.proofs.KnownLemmas.{before_end, known_grows}
use Rattle.sw_before.proofs.laws.channels_carry_the_order.Goals as goal

pub returns : goal.returns
returns c = record { leads = leads_by_channel; next = before_end; known = known_grows }
