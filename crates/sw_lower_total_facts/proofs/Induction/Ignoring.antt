-- Statements whose value is ignored: `_ =` and an expression.
use Rattle.std.proofs.Common.{ℕ, false, List}
use Rattle.sw_tree.specs.declared.expr.Expr.{Expr}
use Rattle.sw_tree.proofs.FoldEquations as eq
use Rattle.sw_tree_facts.specs.Unwritten.{expr_unwritten, unwritten_steps}
use Rattle.sw_typing_rules.specs.Expressions.{Judged}
use Rattle.sw_typing_rules.specs.Judges as is
use Rattle.sw_typing_rules.specs.Statements.{State, expects, setting_of}
use Rattle.sw_typing_rules.specs.declared.scope.Inside.{Inside}
use Rattle.sw_isolation_rules.specs.declared.note.Note.{Note}
use Rattle.sw_lower_plans.specs.Plan.{Numbers}
use Rattle.sw_lower_rules.specs.Statements.{code_steps, expr_code, stmt_code}
use Rattle.sw_lower_rules.specs.Tables.{Tables}
use Rattle.sw_lower_formed_facts.proofs.Statements.Sequences.{plain_rows}
use Rattle.sw_typing_facts.specs.EnumWords.{in_stmt}
use Rattle.sw_lower_total_facts.proofs.Binding.Expressions.{expr_binds_nothing}
use Rattle.sw_lower_total_facts.proofs.Induction.Claims.{ExprClaim, StmtClaim}
use Rattle.sw_lower_total_facts.proofs.Induction.Forms.{stmt_by, tasks_in}
use Rattle.sw_lower_total_facts.proofs.Standing.NoteForms as noted
use Rattle.sw_lower_total_facts.proofs.Standing.Trees as standing
use Rattle.sw_lower_total_facts.proofs.Statements.Ignoring.{discard_proceeds, plain_proceeds}

module _ (tables : Tables) (number : Numbers) (all : List Note) where
  pub discard_case : (inside : Inside) (state : State) (at : ℕ) (value : Expr) (judged : Judged)
      (of_value : is.Judges tables.world (setting_of inside state) false value judged)
      → ExprClaim tables number all of_value
      → StmtClaim tables number all (is.discard inside state at value judged of_value)
  unfolding expr_code stmt_code expr_unwritten in_stmt
  discard_case inside state at value judged of_value value_proceeds unmeant none init vars rows
      numbered context listed same stands =
      stmt_by tables number context listed inside state _ _ _ _ _
      (noted.notes-Discard tables.world tables.answers context listed at value)
      (eq.fold_stmt-Discard (code_steps tables inside.owner) at value) numbered
      (λ form. discard_proceeds tables number context listed inside state _
      (expr_code tables inside.owner value) judged
      (value_proceeds unmeant
      (tasks_in _ _ (eq.fold_stmt-Discard unwritten_steps at value) none) vars rows form context
      listed same
      (standing.discard_value_stands tables all context listed state.vars at value stands))
      (expr_binds_nothing tables inside.owner value))

  pub plain_case : (inside : Inside) (state : State) (value : Expr) (judged : Judged)
      (of_value : is.Judges tables.world (setting_of inside state) (expects inside.only state)
      value judged)
      → ExprClaim tables number all of_value
      → StmtClaim tables number all (is.plain inside state value judged of_value)
  unfolding expr_code stmt_code expr_unwritten in_stmt
  plain_case inside state value judged of_value value_proceeds unmeant none init vars rows numbered
      context listed same stands =
      stmt_by tables number context listed inside state _ _ _ _ _
      (noted.notes-Plain tables.world tables.answers context listed value)
      (eq.fold_stmt-Plain (code_steps tables inside.owner) value) numbered
      (λ form. plain_proceeds tables number context listed inside inside.only state _
      (expr_code tables inside.owner value) judged
      (value_proceeds unmeant
      (tasks_in _ _ (eq.fold_stmt-Plain unwritten_steps value) none) vars
      (plain_rows tables.answers inside.only state judged rows) form context listed same
      (standing.plain_value_stands tables all context listed state.vars value stands))
      (expr_binds_nothing tables inside.owner value))
