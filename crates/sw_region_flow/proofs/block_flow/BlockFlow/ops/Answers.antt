use Rattle.std.proofs.Common.{ap, ◌∙◌}
use Rattle.sw_region_flow.specs.Analysis.{Analysis}
use Rattle.sw_region_flow.proofs.Flows.{ops_there, ops_fit}
use Rattle.sw_region_ops.specs.Table.{block_ops}
use Rattle.sw_region_flow.proofs.block_flow.BlockFlow.ops.Goals as goal

pub returns-clause-ops : goal.returns-clause-ops
returns-clause-ops c = ops_there c.args.self.now.setting c.args.block c.block.result.now
    c.in_ok-ops.ops c.block.ensures.block (c.in_ok-ops.ensures
    ∙ ap (λ (a : Analysis). block_ops a.setting c.block.result.now) c.self.view_is)

pub returns-clause-fit : goal.returns-clause-fit
returns-clause-fit c = ops_fit c.args.self.now c.args.block c.block.result.now c.in_ok-ops.ops
    c.block.ensures.fits c.block.ensures.block (c.in_ok-ops.ensures
    ∙ ap (λ (a : Analysis). block_ops a.setting c.block.result.now) c.self.view_is)
