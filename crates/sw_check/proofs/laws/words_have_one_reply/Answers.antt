use Rattle.sw_check.proofs.Courses as courses
use Rattle.sw_check.proofs.OneExit.{one_ending}
use Rattle.sw_check.proofs.laws.words_have_one_reply.Goals as goal

pub returns-clause-some_reply : goal.returns-clause-some_reply
returns-clause-some_reply c = courses.some_reply

pub returns-clause-one_reply : goal.returns-clause-one_reply
returns-clause-one_reply c = courses.one_reply

pub returns-clause-read_in_order : goal.returns-clause-read_in_order
returns-clause-read_in_order c = courses.read_in_order

pub returns-clause-goes_on : goal.returns-clause-goes_on
returns-clause-goes_on c = courses.goes_on

pub returns-clause-one_end : goal.returns-clause-one_end
returns-clause-one_end c = one_ending
