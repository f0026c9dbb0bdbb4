use Rattle.std.proofs.Common.{List, sym, subst, ◌∙◌}
use Rattle.std.specs.List.{All}
use Rattle.sw_partition.specs.Regions.{size_of}
use Rattle.sw_region_ops.specs.Runs.{Fits}
use Rattle.sw_region_ops.specs.declared.op.Op.{Op}
use Rattle.sw_region_flow.proofs.Visiting.{visit_some, fits_copy}
use Rattle.sw_region_flow.proofs.finding.visit.Goals as goal

pub walk-requires : goal.walk-requires
walk-requires c = subst (λ (os : List Op). All (Fits (size_of c.in_ok-state.state)) os)
    (sym c.as_slice.ensures)
    (fits_copy c.args.flow.now c.args.states.now c.args.block c.in-Some.state.now
    c.in_ok-state.state c.in_ok-ops.ops c.requires.states (sym c.in-Some.ensures)
    c.in_ok-state.ensures.size c.in_ok-ops.ensures.fit)

pub returns : goal.returns
returns c = visit_some c.args.flow.now.setting c.args.states.now c.args.block
    c.as_slice.result.now c.in-Some.state.now c.in_ok-state.state c.walk.new.state
    c.args.found.now c.walk.new.found (sym c.in-Some.ensures)
    (record { same = c.in_ok-state.ensures.alike; sized = c.in_ok-state.ensures.size })
    (c.as_slice.ensures ∙ c.in_ok-ops.ensures.ops) c.in_ok-walk.ensures.runs
    c.in_ok-walk.ensures.found
