use Rattle.sw_graph.proofs.GlobalActorLemmas as actors
use Rattle.sw_graph.proofs.laws.only_classes_have_global_actors.Goals as goal

pub returns-clause-selves : goal.returns-clause-selves
returns-clause-selves c = actors.actor_inside

pub returns-clause-conformances : goal.returns-clause-conformances
returns-clause-conformances c = actors.conformance_holds
