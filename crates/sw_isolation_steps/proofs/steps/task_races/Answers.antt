use Rattle.std.proofs.Common.{◌≡◌, ◌++◌, OnOk, ap, subst, ◌∙◌}
use Rattle.sw_isolation_rules.specs.Noting.{result_races, task_races, task_result}
use Rattle.sw_typing_rules.specs.Worlds.{world_of}
use Rattle.sw_isolation_steps.proofs.steps.task_races.Goals as goal

pub returns : goal.returns
unfolding task_races
returns c =
    subst (λ ty. OnOk c.result_races.result (c.result_races.new.notes ≡ c.args.notes.now
    ++ result_races (world_of c.args.world.now) c.args.at ty))
    (c.task_result.ensures ∙ ap task_result c.ty_at.ensures)
    c.result_races.ensures
