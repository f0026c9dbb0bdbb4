use Rattle.sw_owner_facts.proofs.MergedLemmas.{others_stay}
use Rattle.sw_owner_facts.proofs.WithinLemmas.{unheld_stay}
use Rattle.sw_owner_facts.proofs.laws.suspended_frames_stay.Goals as goal

pub returns-clause-merged : goal.returns-clause-merged
returns-clause-merged c = others_stay

pub returns-clause-unheld : goal.returns-clause-unheld
returns-clause-unheld c = unheld_stay
