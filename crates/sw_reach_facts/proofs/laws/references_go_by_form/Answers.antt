use Rattle.sw_value.specs.declared.value.Value.TheVariants as value
use Rattle.sw_reach_facts.proofs.ReferenceLemmas as by_form
use Rattle.sw_reach_facts.proofs.laws.references_go_by_form.Goals as goal

pub returns : goal.returns
returns c = record {
  cell = λ n. by_form.references-cell (value.Cell n) n (value.outs-Cell n);
  group = λ vs. by_form.references-group (value.Group vs) vs (value.outs-Group vs);
  choice = λ tag vs. by_form.references-case (value.Case tag vs) tag vs (value.outs-Case tag vs);
  integer = λ n. by_form.references-int (value.Int n) n (value.outs-Int n);
  truth = λ b. by_form.references-truth (value.Bool b) b (value.outs-Bool b);
  void = by_form.references-void value.Unit value.outs-Unit;
}
