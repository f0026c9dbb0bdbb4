use Rattle.sw_see.proofs.ExitLemmas.{end_exit, end_plain, end_short, refusal_exit, refusal_plain}
use Rattle.sw_see.proofs.reply.reply.Goals as goal

pub returns-in-Ok-clause-exits : goal.returns-in-Ok-clause-exits
returns-in-Ok-clause-exits g c = let d = c.in-Ok.ensures in
    end_exit _ d.reads c.in-Ok.outcome d.so_far

pub returns-in-Ok-clause-no_failure : goal.returns-in-Ok-clause-no_failure
returns-in-Ok-clause-no_failure g c = let d = c.in-Ok.ensures in
    end_plain _ d.reads c.in-Ok.outcome d.so_far

pub returns-in-Ok-clause-long : goal.returns-in-Ok-clause-long
returns-in-Ok-clause-long g c long = let d = c.in-Ok.ensures in
    absurd (end_short _ d.reads c.in-Ok.outcome d.so_far long)

pub returns-in-Err-Refused-clause-exits : goal.returns-in-Err-Refused-clause-exits
returns-in-Err-Refused-clause-exits g c = let d =
    rw c.in-Err-Refused.field-0-is at c.in-Err-Refused.ensures in
    refusal_exit _ d.reads c.in-Err-Refused.outcome d.so_far

pub returns-in-Err-Refused-clause-no_failure : goal.returns-in-Err-Refused-clause-no_failure
returns-in-Err-Refused-clause-no_failure g c = let d =
    rw c.in-Err-Refused.field-0-is at c.in-Err-Refused.ensures in
    refusal_plain _ d.reads c.in-Err-Refused.outcome d.so_far
