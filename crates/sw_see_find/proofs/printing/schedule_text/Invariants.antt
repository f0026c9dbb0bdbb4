use Rattle.std.proofs.Common.{length}
use Rattle.sw_see_find.proofs.printing.schedule_text.Given as goal

abbrev pub decreases-loop-job : goal.decreases-loop-job
decreases-loop-job l = length l.rest
