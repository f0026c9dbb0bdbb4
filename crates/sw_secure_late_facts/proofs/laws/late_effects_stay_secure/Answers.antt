use Rattle.sw_secure_late_facts.proofs.Painted.{effects_stay, plans_paint}
use Rattle.sw_secure_late_facts.proofs.laws.late_effects_stay_secure.Goals as goal

pub returns : goal.returns
returns c = record { paints = plans_paint; stays = effects_stay }
