use Rattle.sw_color_rules.proofs.PaletteLemmas.{reach_whole}
use Rattle.sw_color_rules.proofs.laws.palettes_stay_whole.Goals as goal

pub returns : goal.returns
returns c = record { whole = reach_whole }
