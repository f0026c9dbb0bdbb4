use Rattle.sw_hb.proofs.ClockedLemmas.{clocked_none}
use Rattle.sw_hb.proofs.clocked.clock_start.Goals as goal

pub returns-clause-clocked : goal.returns-clause-clocked
returns-clause-clocked c =
    clocked_none c.args.graph.now _ c.in_ok-start.ensures c.new.ensures c.in_ok-new.ensures
