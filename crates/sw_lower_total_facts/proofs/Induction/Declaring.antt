-- A declaration of a variable.
use Rattle.std.proofs.Common.{Bool, List, Option}
use Rattle.sw_tree.specs.declared.expr.Expr.{Expr}
use Rattle.sw_tree.specs.declared.name.Name.{Name}
use Rattle.sw_tree.specs.declared.type_tree.TypeTree.{TypeTree}
use Rattle.sw_tree.proofs.FoldEquations as eq
use Rattle.sw_tree_facts.specs.Unwritten.{expr_unwritten, unwritten_steps}
use Rattle.sw_typing_rules.specs.Expressions.{Judged}
use Rattle.sw_typing_rules.specs.Judges as is
use Rattle.sw_typing_rules.specs.Statements.{State, marked_type, setting_of, written}
use Rattle.sw_typing_rules.specs.declared.scope.Inside.{Inside}
use Rattle.sw_isolation_rules.specs.declared.note.Note.{Note}
use Rattle.sw_lower_plans.specs.Plan.{Numbers}
use Rattle.sw_lower_rules.specs.Statements.{code_steps, expr_code, stmt_code}
use Rattle.sw_lower_rules.specs.Tables.{Tables}
use Rattle.sw_lower_formed_facts.proofs.Statements.Sequences.{bind_rows}
use Rattle.sw_typing_facts.specs.EnumWords.{in_stmt}
use Rattle.sw_lower_total_facts.proofs.Binding.Expressions.{expr_binds_nothing}
use Rattle.sw_lower_total_facts.proofs.Induction.Claims.{ExprClaim, StmtClaim}
use Rattle.sw_lower_total_facts.proofs.Induction.Forms.{stmt_by, tasks_in}
use Rattle.sw_lower_total_facts.proofs.Standing.NoteForms as noted
use Rattle.sw_lower_total_facts.proofs.Standing.Trees as standing
use Rattle.sw_lower_total_facts.proofs.Statements.Declaring.{bind_proceeds}
use Rattle.sw_lower_formed_facts.proofs.Expressions.Typed.{type_of_expr}

module _ (tables : Tables) (number : Numbers) (all : List Note) where
  pub bind_case : (inside : Inside) (state : State) (mutable : Bool) (name : Name)
      (ty : Option TypeTree) (value : Expr) (judged : Judged)
      (of_value : is.Judges tables.world (setting_of inside state)
      (marked_type (written tables.world ty)) value judged)
      → ExprClaim tables number all of_value
      → StmtClaim tables number all (is.bind inside state mutable name ty value judged of_value)
  unfolding expr_code stmt_code expr_unwritten in_stmt
  bind_case inside state mutable name ty value judged of_value value_proceeds unmeant none init vars
      rows numbered context listed same stands =
      let value_rows = bind_rows tables.answers state mutable name (written tables.world ty) judged
      rows in
      let typed = type_of_expr tables (setting_of inside state) _ value judged of_value vars
      value_rows in
      stmt_by tables number context listed inside state _ _ _ _ _
      (noted.notes-Bind tables.world tables.answers context listed mutable name ty value)
      (eq.fold_stmt-Bind (code_steps tables inside.owner) mutable name ty value) numbered
      (λ form. bind_proceeds tables number context listed inside state _ mutable name
      (written tables.world ty) (expr_code tables inside.owner value) judged typed.0 typed.1
      (value_proceeds unmeant
      (tasks_in _ _ (eq.fold_stmt-Bind unwritten_steps mutable name ty value) none) vars
      value_rows form context listed same
      (standing.bind_value_stands tables all context listed state.vars mutable name ty value
      stands))
      (expr_binds_nothing tables inside.owner value) rows)
