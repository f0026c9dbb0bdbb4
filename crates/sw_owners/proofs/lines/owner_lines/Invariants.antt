use Rattle.std.proofs.Common.{◌≡◌, flat_map, map, string_bytes, take}
use Rattle.sw_owners.specs.Lines.{owner_line}
use Rattle.sw_owners.proofs.lines.owner_lines.Given as goal

abbrev pub invariant-loop-owned : goal.invariant-loop-owned
invariant-loop-owned l =
    string_bytes l.lines ≡ flat_map (owner_line (map string_bytes l.names)) (take l.owned-index l.owners)
