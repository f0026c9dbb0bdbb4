use Rattle.sw_hue_facts.proofs.NewTints as tinted
use Rattle.sw_hue_facts.proofs.laws.new_tints_fit.Goals as goal

pub returns : goal.returns
returns c = record { cells = tinted.new_tints_fit; tasks = tinted.task_fits }
