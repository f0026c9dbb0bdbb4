use Rattle.std.proofs.Common.{refl}
use Rattle.sw_tree_step.specs.Items.{tree_start_of}
use Rattle.sw_tree_step.proofs.laws.programs_begin.Goals as goal

pub returns : goal.returns
unfolding tree_start_of
returns c = record {
  cells = λ facts decls. refl;
  globals = λ facts decls. refl;
  jobs = λ facts decls. (_, refl);
  halted = λ facts decls. refl;
}
