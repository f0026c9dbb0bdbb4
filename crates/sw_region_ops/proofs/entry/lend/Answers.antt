use Rattle.std.proofs.Common.{rules}
use Rattle.sw_region_ops.proofs.EntryLemmas.{met_more}
use Rattle.sw_region_ops.proofs.entry.lend.Goals as goal

pub returns-in-Some-clause-met : goal.returns-in-Some-clause-met
returns-in-Some-clause-met c = λ count sites met here is_met. rw (c.if-sends.false, c.in-Some.is)
    (met_more count sites met c.in-Some.x c.args.state.now c.join.new.self here is_met
    (search rules) c.join.ensures)
