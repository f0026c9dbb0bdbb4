use Rattle.std.proofs.Common.{refl, sym, subst, ◌≡◌, ◌∙◌, IfSome}
use Rattle.sw_partition.specs.Regions.{size_of}
use Rattle.sw_region_flow.specs.Analysis.{facts_of, block_ops_at}
use Rattle.sw_region_ops.proofs.RunLemmas.{runs_size}
use Rattle.sw_solve.specs.Annotation.{value_at}
use Rattle.sw_cert.proofs.Copies.{passes_at, closed_at, closed_not, of_some, not_true}
use Rattle.sw_cert.proofs.testing.test_line.Goals as goal

pub is_closed-requires-clause-sized : goal.is_closed-requires-clause-sized
is_closed-requires-clause-sized c =
    let there = sym c.in-Some.ensures in
    let size = c.in_ok-state.ensures.size ∙ of_some (value_at c.args.table.now c.args.block)
    c.in-Some.state.now (λ s. size_of s ≡ facts_of c.args.flow.now)
    (c.requires.sized c.args.block) there in
    let kept = runs_size (block_ops_at c.args.flow.now.setting c.args.block) c.in_ok-state.state
    c.passes.new.state c.in_ok-passes.ensures.runs in
    λ block. subst (λ n. IfSome (value_at c.args.table.now block) (λ s. size_of s ≡ n))
    (sym (kept ∙ size)) (c.requires.sized block)

pub returns-then-not-branch-2-clause-fault : goal.returns-then-not-branch-2-clause-fault
returns-then-not-branch-2-clause-fault c =
    let there = sym c.in-Some.ensures in (
      refl,
      passes_at c.args.flow.now.setting c.args.table.now c.args.block c.in-Some.state.now
          c.in_ok-state.state c.passes.new.state there
          (record { same = c.in_ok-state.ensures.alike; sized = c.in_ok-state.ensures.size })
          c.in_ok-passes.ensures.runs (c.in_ok-passes.ensures.passes.0 c.if-not-branch.false),
      closed_not c.args.flow.now.setting c.args.table.now c.args.block c.in-Some.state.now
          c.in_ok-state.state c.passes.new.state there
          (record { same = c.in_ok-state.ensures.alike; sized = c.in_ok-state.ensures.size })
          c.in_ok-passes.ensures.runs
          (λ all. not_true c.in_ok-is_closed.field-0 c.if-not-branch-2.true
          (c.in_ok-is_closed.ensures.1 all)),
    )

pub returns-clause-passes : goal.returns-clause-passes
returns-clause-passes c =
    let there = sym c.in-Some.ensures in
    passes_at c.args.flow.now.setting c.args.table.now c.args.block c.in-Some.state.now
    c.in_ok-state.state c.passes.new.state there
    (record { same = c.in_ok-state.ensures.alike; sized = c.in_ok-state.ensures.size })
    c.in_ok-passes.ensures.runs (c.in_ok-passes.ensures.passes.0 c.if-not-branch.false)

pub returns-clause-closed : goal.returns-clause-closed
returns-clause-closed c =
    let there = sym c.in-Some.ensures in
    closed_at c.args.flow.now.setting c.args.table.now c.args.block c.in-Some.state.now
    c.in_ok-state.state c.passes.new.state there
    (record { same = c.in_ok-state.ensures.alike; sized = c.in_ok-state.ensures.size })
    c.in_ok-passes.ensures.runs (c.in_ok-is_closed.ensures.0 c.if-not-branch-2.false)
