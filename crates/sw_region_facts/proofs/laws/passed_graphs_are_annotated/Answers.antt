use Rattle.sw_region_facts.proofs.Annotated.{annotated, annotation_of}
use Rattle.sw_region_facts.proofs.laws.passed_graphs_are_annotated.Goals as goal

pub returns : goal.returns
returns c = record { some = annotated; each = annotation_of }
