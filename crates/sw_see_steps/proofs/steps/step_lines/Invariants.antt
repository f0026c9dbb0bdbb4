use Rattle.std.proofs.Common.{◌≡◌, ◌+◌, ◌++◌, drop, map, string_bytes}
use Rattle.sw_see_steps.specs.Steps.{joined, lines_from}
use Rattle.sw_see_steps.proofs.steps.step_lines.Given as goal

-- the lines so far and those of the events that are left are the lines of all
abbrev pub invariant-loop-happening : goal.invariant-loop-happening
invariant-loop-happening l = record {
  number : l.number ≡ l.happening-index;
  lines : l.lines.items ++ joined (lines_from l.text (map string_bytes l.names) (l.number + 1)
      (drop l.happening-index l.happenings))
      ≡ joined (lines_from l.text (map string_bytes l.names) 1 l.happenings);
}
