use Rattle.std.proofs.Common.{◌≡◌, ◌+◌, ◌*◌, ◌++◌, drop, map, string_bytes}
use Rattle.sw_see_draw.specs.Picture.{keys_drawn}
use Rattle.sw_see_draw.proofs.keys.add_keys.Given as goal

-- what is made so far and the lines that are left are what was there and all lines
abbrev pub invariant-loop-executor : goal.invariant-loop-executor
invariant-loop-executor l =
    (l.made.items ++ keys_drawn (map string_bytes l.names) l.line (drop l.executor-index l.all)
    ≡ l.fn.made.items ++ keys_drawn (map string_bytes l.names) l.y l.all)
    × (l.line ≡ l.y + 16 * l.executor-index)
