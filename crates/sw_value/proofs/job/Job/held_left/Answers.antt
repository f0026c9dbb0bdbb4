use Rattle.std.proofs.Common.{sym, arith, ◌∙◌}
use Rattle.sw_value.proofs.BusyLemmas.{held_left_at, held_ended}
use Rattle.sw_value.proofs.job.Job.held_left.Goals as goal

pub returns-then-depth-lt2 : goal.returns-then-depth-lt2
returns-then-depth-lt2 c = λ v. sym (held_ended v c.args.self.now (omega arith))

pub returns : goal.returns
returns c = λ v.
    c.held_below.ensures
    ∙ sym (held_left_at v c.args.self.now c.len-depth.result c.at.result.now c.at-2.result.now
    c.len-depth.ensures c.at.ensures c.at-2.ensures (omega arith))
