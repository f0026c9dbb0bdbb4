use Rattle.sw_late_facts.proofs.HueLemmas.{fresh_stays, merge_goes, merge_comes, merge_same}
use Rattle.sw_late_facts.proofs.HueLemmas.{handed_goes, handed_stays}
use Rattle.sw_late_facts.proofs.laws.changes_move_one_colour.Goals as goal

pub returns-clause-made : goal.returns-clause-made
returns-clause-made c = fresh_stays

pub returns-clause-merged : goal.returns-clause-merged
returns-clause-merged c = merge_goes

pub returns-clause-merged_into : goal.returns-clause-merged_into
returns-clause-merged_into c = merge_comes

pub returns-clause-same : goal.returns-clause-same
returns-clause-same c = merge_same

pub returns-clause-handed : goal.returns-clause-handed
returns-clause-handed c = handed_goes

pub returns-clause-kept : goal.returns-clause-kept
returns-clause-kept c = handed_stays
