use Rattle.std.proofs.Common.{sym, ◌∙◌}
use Rattle.std.proofs.lemmas.List.Concat.{flat_map-append}
use mathlib.Core.List.{append-eq-nil_iff}
use Rattle.sw_tree_facts.proofs.PartsWritten.{chains_have_operators, tasks_take_nothing}
use Rattle.sw_tree_facts.proofs.WrittenDecls.{decls_lack}
use Rattle.sw_tree_facts.proofs.WrittenTrees.{block_lacks, expr_lacks}
use Rattle.sw_tree_facts.proofs.laws.written_trees_lack_two_forms.Goals as goal
use Rattle.sw_tree_facts.specs.Parts.{of_block, of_decls, of_expr}
use Rattle.sw_tree_facts.specs.Unwritten.{decl_unwritten}

pub returns : goal.returns
returns c = record {
  tasks = λ decls. tasks_take_nothing (of_decls decls);
  chains = λ decls. chains_have_operators (of_decls decls);
  nothing_else = λ decls tasks chains. decls_lack decls (tasks, chains);
  appended = λ before after.
      let apart = flat_map-append decl_unwritten before after in (
        λ none. append-eq-nil_iff.0 (sym apart ∙ none),
        λ both. apart ∙ append-eq-nil_iff.1 both,
      );
  exprs = λ expr. (
    λ none. (tasks_take_nothing (of_expr expr) none, chains_have_operators (of_expr expr) none),
    expr_lacks expr,
  );
  blocks = λ block. (
    λ none. (
      tasks_take_nothing (of_block block) none,
      chains_have_operators (of_block block) none,
    ),
    block_lacks block,
  );
}
