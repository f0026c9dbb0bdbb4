use Rattle.std.proofs.Common.{◌≡◌, ◌++◌, ◌∙◌, arith, append_assoc, ◌∷◌, []}
use Rattle.sw_gen.specs.Schedule.{turn}
use Rattle.sw_gen.proofs.Pieces.{one_more_number}
use Rattle.sw_gen.proofs.schedule.make_schedule.Goals as goal

pub loop-task-preserved : goal.loop-task-preserved
loop-task-preserved c =
    let made = c.loop-task.runs.items in
    let task = c.loop-task.task in
    let pushed : c.push-in-loop-task.new.self.items ≡ made ++ turn task =
    rw (c.in_ok-push-2.ensures.items, c.in_ok-push.ensures.items)
    (append_assoc made ((0, 20) ∷ []) ((task, 20) ∷ [])) in
    rw pushed
    (one_more_number turn made task c.args.n (omega (arith, c.loop-task-test.true))
    ∙ c.loop-task.invariant)
