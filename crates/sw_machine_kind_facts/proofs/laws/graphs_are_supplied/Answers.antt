use Rattle.sw_machine_kind_facts.proofs.PlacedLemmas.{placed_supplied}
use Rattle.sw_machine_kind_facts.proofs.PlainLemmas.{plain_supplied}
use Rattle.sw_machine_kind_facts.proofs.laws.graphs_are_supplied.Goals as goal

pub returns : goal.returns
returns c = record { placed = placed_supplied; plain = plain_supplied }
