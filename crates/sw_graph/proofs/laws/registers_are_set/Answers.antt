use Rattle.sw_graph.proofs.StraightLemmas as straight
use Rattle.sw_graph.proofs.WayLemmas as ways
use Rattle.sw_graph.proofs.laws.registers_are_set.Goals as goal

pub returns-clause-annotated : goal.returns-clause-annotated
returns-clause-annotated c = ways.annotated

pub returns-clause-straight : goal.returns-clause-straight
returns-clause-straight c = straight.straight_sets

pub returns-clause-straight_payloads : goal.returns-clause-straight_payloads
returns-clause-straight_payloads c = straight.straight_payloads
