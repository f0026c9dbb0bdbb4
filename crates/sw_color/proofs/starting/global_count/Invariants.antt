use Rattle.std.proofs.Common.{◌≡◌, ◌≤◌, take}
use Rattle.sw_color_rules.specs.Machine.{global_count}
use Rattle.sw_color.proofs.starting.global_count.Given as goal

abbrev pub invariant-loop-function : goal.invariant-loop-function
invariant-loop-function l =
    (l.count ≡ global_count (take l.function-index l.functions)) × (l.count ≤ 4294967296)
