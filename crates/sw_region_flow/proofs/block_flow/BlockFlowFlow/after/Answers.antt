use Rattle.std.proofs.Common.{◌∙◌}
use Rattle.sw_region_ops.proofs.RunLemmas.{runs_size}
use Rattle.sw_region_flow.proofs.block_flow.BlockFlowFlow.after.Goals as goal

pub returns-clause-size : goal.returns-clause-size
returns-clause-size c = runs_size _ c.in_ok-state.state c.run.new.state c.run.ensures
    ∙ c.in_ok-state.ensures.size ∙ c.requires.size
