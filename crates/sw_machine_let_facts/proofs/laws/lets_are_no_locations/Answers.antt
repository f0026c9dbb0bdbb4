use Rattle.sw_machine_let_facts.proofs.LetLemmas as let_lemma
use Rattle.sw_machine_let_facts.proofs.laws.lets_are_no_locations.Goals as goal

pub returns : goal.returns
returns c = record {
  objects = let_lemma.object_apart;
  actors = let_lemma.actor_apart;
  globals = let_lemma.global_apart;
}
