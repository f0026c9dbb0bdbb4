-- The replay of a list of items on the coloured machine.
use Rattle.std.specs.Prelude.{ℕ, List}
use Rattle.sw_graph.specs.declared.graph.Graph.{Graph}
use Rattle.sw_color_rules.specs.Machine.{colored_reach}
use Rattle.sw_replay.specs.Output.{output_of}
use Rattle.sw_owners.specs.declared.replaying.OwnerReplay.{OwnerReplay}
use Rattle.sw_owners.specs.Owners.{owners_of}

-- what comes of a list of items, all of which are taken, and who owns the coloured cells then
abbrev pub owner_replay : Graph → List ℕ → OwnerReplay
owner_replay graph items = record {
  output = output_of graph items;
  owners = owners_of (colored_reach graph items);
}
