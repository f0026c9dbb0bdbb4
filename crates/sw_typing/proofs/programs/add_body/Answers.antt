use Rattle.std.proofs.Common.{rules, ap, ◌∙◌, ◌++◌}
use Rattle.sw_typing_rules.specs.Worlds.{world_of}
use Rattle.sw_typing_rules.specs.declared.scope.Inside.{Inside}
use Rattle.sw_typing_steps.specs.Steps.{state_of, went_of}
use Rattle.sw_typing.specs.Walked.{block_left}
use Rattle.sw_typing.proofs.Bodies.{body_said}
use Rattle.sw_typing.proofs.programs.add_body.Goals as goal

pub returns : goal.returns
returns c =
    body_said (world_of c.args.world.now) c.args.at c.args.owner c.args.init c.args.params.now
    c.args.wanted c.args.tree.now c.args.rows c.in_ok-went.went c.len-start.result
    c.in_ok-table.table c.block.new.table c.body_rows.new.table c.in_ok-table.ensures (search rules)
    (c.in_ok-went.ensures.went ∙ ap (λ (i : Inside). went_of (block_left (world_of c.args.world.now)
    c.args.tree.now i (state_of c.in_ok-table.table))) c.in_body.ensures)
    (c.in_ok-went.ensures.rows
    ∙ ap (λ (i : Inside). c.in_ok-table.table.rows ++ (block_left (world_of c.args.world.now)
    c.args.tree.now i (state_of c.in_ok-table.table)).rows) c.in_body.ensures)
    (c.in_ok-went.ensures.returned ∙ ap (λ (i : Inside). (block_left (world_of c.args.world.now)
    c.args.tree.now i (state_of c.in_ok-table.table)).state.returned) c.in_body.ensures)
    c.in_ok-body_rows.ensures
