use Rattle.sw_color_rules.proofs.PlanRanges.{reach_made}
use Rattle.sw_color_rules.proofs.laws.colors_were_made.Goals as goal

pub returns : goal.returns
returns c = record { made = reach_made }
