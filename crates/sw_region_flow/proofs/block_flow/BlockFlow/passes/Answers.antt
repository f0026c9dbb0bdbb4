use Rattle.std.proofs.Common.{◌≡◌, List, [], subst, ◌∙◌}
use Rattle.sw_breach.specs.declared.Breach.{Breach}
use Rattle.sw_region_flow.proofs.Passing.{pass_if_none}
use Rattle.sw_region_flow.proofs.Visiting.{IsFound}
use Rattle.sw_region_flow.specs.Analysis.{block_ops_at}
use Rattle.sw_region_flow.specs.Walks.{FailsAmong}
use Rattle.sw_region_ops.specs.declared.op.Op.{Op}
use Rattle.sw_region_flow.proofs.block_flow.BlockFlow.passes.Goals as goal

pub returns-clause-passes : goal.returns-clause-passes
returns-clause-passes c =
    let ops : c.as_slice.result.now ≡ block_ops_at c.args.self.now.setting c.args.block =
    c.as_slice.ensures ∙ c.in_ok-ops.ensures.ops in
    let found : IsFound (FailsAmong (block_ops_at c.args.self.now.setting c.args.block)
    c.args.state.now) [] c.walk.new.found =
    subst (λ (old : List Breach). IsFound
    (FailsAmong (block_ops_at c.args.self.now.setting c.args.block) c.args.state.now) old
    c.walk.new.found) c.new-found.ensures
    (subst (λ (os : List Op). IsFound (FailsAmong os c.args.state.now) c.new-found.result
    c.walk.new.found) ops c.in_ok-walk.ensures.found) in
    let passes = pass_if_none (block_ops_at c.args.self.now.setting c.args.block) c.args.state.now
    c.walk.new.found found in (
      λ empty. passes.0 (c.is_empty.ensures.0 empty),
      λ all. c.is_empty.ensures.1 (passes.1 all),
    )
