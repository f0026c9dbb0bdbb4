use Rattle.sw_machine_kind_facts.proofs.EndlessExample.{supplied_graph}
use Rattle.sw_machine_kind_facts.proofs.SureLemmas.{way_of}
use Rattle.sw_machine_kind_facts.proofs.laws.constants_rule_out_ways.Goals as goal

pub returns : goal.returns
returns c = record { ways = way_of; fewer = supplied_graph }
