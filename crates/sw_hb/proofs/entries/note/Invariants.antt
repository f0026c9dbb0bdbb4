use Rattle.std.proofs.Common.{◌≡◌, ◌++◌, map, take, drop}
use Rattle.sw_hb.specs.Entries.{noted}
use Rattle.sw_hb.proofs.entries.note.Given as goal

abbrev pub invariant-loop-index : goal.invariant-loop-index
invariant-loop-index l =
    l.entries ≡ map (noted l.made) (take l.index l.fn.entries) ++ drop l.index l.fn.entries
