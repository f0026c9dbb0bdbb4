use Rattle.std.proofs.Common.{◌≡◌, ◌++◌, ◌+◌, ◌-◌, flat_map}
use Rattle.std.specs.List.{range_with_len}
use Rattle.sw_gen.specs.Schedule.{turn}
use Rattle.sw_gen.proofs.schedule.make_schedule.Given as goal

-- the runs so far and those of the tasks that are left are those of all tasks
abbrev pub invariant-loop-task : goal.invariant-loop-task
invariant-loop-task l =
    l.runs.items ++ flat_map turn (range_with_len l.task (l.n + 1 - l.task))
    ≡ flat_map turn (range_with_len 1 l.n)
