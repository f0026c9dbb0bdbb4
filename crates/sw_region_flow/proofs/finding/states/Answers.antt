use Rattle.std.proofs.Common.{◌↔◌, IsSome, subst}
use Rattle.sw_solve.specs.Annotation.{value_at}
use Rattle.sw_solve.specs.Ways.{HasWay}
use Rattle.sw_region_flow.proofs.Exact.{least_at_blocks}
use Rattle.sw_region_flow.proofs.Flows.{joins_within}
use Rattle.sw_region_flow.specs.Analysis.{targets_at}
use Rattle.sw_region_flow.specs.Least.{IsLeastAtBlocks}
use Rattle.sw_region_ops.specs.Setting.{FunctionSetting}
use Rattle.sw_region_flow.proofs.finding.states.Goals as goal

pub solve-requires : goal.solve-requires
solve-requires g c = c.in_ok-flow.ensures.fits.begins

pub returns-clause-least : goal.returns-clause-least
returns-clause-least g c = λ body is. subst (λ s. IsLeastAtBlocks s c.in_ok-states.states)
    (c.in_ok-flow.ensures.setting body is)
    (least_at_blocks c.in_ok-flow.flow c.in_ok-flow.ensures.fits c.in_ok-states.states
    (record {
      closed = c.in_ok-states.ensures.closed;
      lowest = c.in_ok-states.ensures.lowest;
    }))

pub returns-clause-reached : goal.returns-clause-reached
returns-clause-reached g c = λ body is block. subst
    (λ (s : FunctionSetting). IsSome (value_at c.in_ok-states.states block)
    ↔ HasWay (targets_at s.body.blocks) block)
    (c.in_ok-flow.ensures.setting body is) (c.in_ok-states.ensures.reached block)

pub returns-clause-joins : goal.returns-clause-joins
returns-clause-joins g c = λ body is. joins_within c.in_ok-flow.flow _ _ c.in_ok-flow.ensures.fits
    c.solve.ensures.joins _ (c.in_ok-flow.ensures.setting body is)

pub returns-in_err-states-clause-joins : goal.returns-in_err-states-clause-joins
returns-in_err-states-clause-joins g c = λ body is. joins_within c.in_ok-flow.flow _ _
    c.in_ok-flow.ensures.fits c.solve.ensures.joins _ (c.in_ok-flow.ensures.setting body is)
