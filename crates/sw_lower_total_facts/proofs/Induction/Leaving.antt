-- Statements that leave a body, a loop or a `switch`.
use Rattle.std.proofs.Common.{ℕ, List, Some, None, ap}
use Rattle.sw_tree.specs.declared.expr.Expr.{Expr}
use Rattle.sw_tree.proofs.FoldEquations as eq
use Rattle.sw_tree_facts.specs.Unwritten.{expr_unwritten, unwritten_steps}
use Rattle.sw_typing_rules.specs.Expressions.{Judged}
use Rattle.sw_typing_rules.specs.Judges as is
use Rattle.sw_typing_rules.specs.Statements.{State, marked_result, setting_of}
use Rattle.sw_typing_rules.specs.declared.scope.Inside.{Inside}
use Rattle.sw_isolation_rules.specs.Noting.{Notes, stmt_notes}
use Rattle.sw_isolation_rules.specs.declared.note.Note.{Note}
use Rattle.sw_lower_plans.specs.Plan.{Numbers}
use Rattle.sw_lower_rules.specs.Statements.{code_steps, expr_code, stmt_code}
use Rattle.sw_lower_rules.specs.Tables.{Tables}
use Rattle.sw_lower_formed_facts.proofs.Statements.Sequences.{return_rows}
use Rattle.sw_typing_facts.specs.EnumWords.{in_stmt}
use Rattle.sw_lower_total_facts.proofs.Binding.Expressions.{expr_binds_nothing}
use Rattle.sw_lower_total_facts.proofs.Induction.Claims.{ExprClaim, StmtClaim}
use Rattle.sw_lower_total_facts.proofs.Induction.Forms.{seeing, stmt_by, tasks_in}
use Rattle.sw_lower_total_facts.proofs.Standing.NoteForms as noted
use Rattle.sw_lower_total_facts.proofs.Standing.Trees as standing
use Rattle.sw_lower_total_facts.proofs.Statements.Leaving.{break_proceeds, continue_proceeds}
use Rattle.sw_lower_total_facts.proofs.Statements.Leaving.{return_nothing_proceeds, return_proceeds}

module _ (tables : Tables) (number : Numbers) (all : List Note) where
  pub return_nothing_case : (inside : Inside) (state : State) (at : ℕ)
      → StmtClaim tables number all (is.return_nothing inside state at)
  unfolding stmt_code stmt_notes
  return_nothing_case inside state at unmeant none init vars rows numbered context listed same
      stands =
      stmt_by tables number context listed inside state _ _ _ _ _
      (ap (λ (n : Notes). n context listed) (eq.fold_stmt-Return (seeing tables) at None))
      (eq.fold_stmt-Return (code_steps tables inside.owner) at None) numbered
      (λ form. return_nothing_proceeds tables number context listed inside state at)

  pub return_case : (inside : Inside) (state : State) (at : ℕ) (value : Expr) (judged : Judged)
      (of_value : is.Judges tables.world (setting_of inside state) (marked_result state.returned)
      value judged)
      → ExprClaim tables number all of_value
      → StmtClaim tables number all (is.return_of inside state at value judged of_value)
  unfolding expr_code stmt_code expr_unwritten in_stmt
  return_case inside state at value judged of_value value_proceeds unmeant none init vars rows
      numbered context listed same stands =
      stmt_by tables number context listed inside state _ _ _ _ _
      (noted.notes-Return tables.world tables.answers context listed at value)
      (eq.fold_stmt-Return (code_steps tables inside.owner) at (Some value)) numbered
      (λ form. return_proceeds tables number context listed inside state _ at
      (expr_code tables inside.owner value) judged
      (value_proceeds unmeant
      (tasks_in _ _ (eq.fold_stmt-Return unwritten_steps at (Some value)) none) vars
      (return_rows tables.answers state.returned state at judged rows) form context listed same
      (standing.return_value_stands tables all context listed state.vars at value stands))
      (expr_binds_nothing tables inside.owner value))

  pub break_case : (inside : Inside) (state : State) (at : ℕ)
      → StmtClaim tables number all (is.break_of inside state at)
  unfolding stmt_code stmt_notes
  break_case inside state at unmeant none init vars rows numbered context listed same stands =
      stmt_by tables number context listed inside state _ _ _ _ _
      (ap (λ (n : Notes). n context listed) (eq.fold_stmt-Break (seeing tables) at))
      (eq.fold_stmt-Break (code_steps tables inside.owner) at) numbered
      (λ form. break_proceeds tables number context listed inside state at rows)

  pub continue_case : (inside : Inside) (state : State) (at : ℕ)
      → StmtClaim tables number all (is.continue_of inside state at)
  unfolding stmt_code stmt_notes
  continue_case inside state at unmeant none init vars rows numbered context listed same stands =
      stmt_by tables number context listed inside state _ _ _ _ _
      (ap (λ (n : Notes). n context listed) (eq.fold_stmt-Continue (seeing tables) at))
      (eq.fold_stmt-Continue (code_steps tables inside.owner) at) numbered
      (λ form. continue_proceeds tables number context listed inside state at rows)
