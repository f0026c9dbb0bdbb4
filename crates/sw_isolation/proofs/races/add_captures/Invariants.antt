use Rattle.std.proofs.Common.{◌≡◌, ◌++◌, drop}
use Rattle.std.specs.List.{flat_map}
use Rattle.sw_typing_rules.specs.Worlds.{world_of}
use Rattle.sw_isolation_table.specs.Known.{answers_of}
use Rattle.sw_isolation_rules.specs.Races.{capture_races}
use Rattle.sw_isolation.proofs.races.add_captures.Given as goal

-- the breaches so far, and those of the captures that are left
abbrev pub invariant-loop-capture : goal.invariant-loop-capture
invariant-loop-capture l = l.found
    ++ flat_map (capture_races (world_of l.world) (answers_of l.typed))
    (drop l.capture-index l.captures)
    ≡ l.fn.found ++ flat_map (capture_races (world_of l.world) (answers_of l.typed)) l.captures
