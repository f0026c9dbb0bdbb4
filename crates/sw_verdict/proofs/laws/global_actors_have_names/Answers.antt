use Rattle.sw_verdict.proofs.ActorNames.{one_names, some_names}
use Rattle.sw_verdict.proofs.laws.global_actors_have_names.Goals as goal

pub returns : goal.returns
returns c = record { some_names = some_names; one_list = one_names }
