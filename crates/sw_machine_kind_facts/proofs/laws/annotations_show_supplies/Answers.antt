use Rattle.sw_machine_kind_facts.proofs.AnnotationLemmas as annotation
use Rattle.sw_machine_kind_facts.proofs.laws.annotations_show_supplies.Goals as goal

pub returns : goal.returns
returns c = record { results = annotation.returns_result; values = annotation.stores_first }
