use Rattle.sw_region_flow.proofs.Flows.{targets_there, targets_fit}
use Rattle.sw_region_flow.proofs.block_flow.BlockFlow.following.Goals as goal

pub returns-clause-targets : goal.returns-clause-targets
returns-clause-targets c = targets_there c.args.self.now.setting.body.blocks c.args.block
    c.block.result.now c.in_ok-targets.targets.items c.block.ensures.block c.in_ok-targets.ensures

pub returns-clause-in_range : goal.returns-clause-in_range
returns-clause-in_range c = targets_fit c.args.self.now c.args.block c.block.result.now
    c.in_ok-targets.targets.items c.block.ensures.fits c.block.ensures.block
    c.in_ok-targets.ensures
