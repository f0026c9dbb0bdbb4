-- A `while`.
use Rattle.std.proofs.Common.{◌≡◌, ℕ, false, List, None}
use Rattle.sw_tree.specs.declared.expr.Expr.{Expr}
use Rattle.sw_tree.specs.declared.stmt.Block.{Block}
use Rattle.sw_tree.proofs.FoldEquations as eq
use Rattle.sw_tree_facts.specs.Unwritten.{block_unwritten, expr_unwritten, unwritten_steps}
use Rattle.sw_typing_rules.specs.Expressions.{Judged}
use Rattle.sw_typing_rules.specs.Judges as is
use Rattle.sw_typing_rules.specs.Statements.{Left, State, condition_rows, in_loop, setting_of}
use Rattle.sw_typing_rules.specs.declared.scope.Inside.{Inside}
use Rattle.sw_isolation_rules.specs.declared.note.Note.{Note}
use Rattle.sw_lower_plans.specs.Plan.{Numbers}
use Rattle.sw_lower_rules.specs.Statements.{block_code, code_steps, expr_code, stmt_code}
use Rattle.sw_lower_rules.specs.Tables.{Tables}
use Rattle.sw_typing_facts.proofs.Lists.Joined.{all_left, all_right}
use Rattle.sw_typing_facts.proofs.Programs.DeclStands.{none_left, none_right}
use Rattle.sw_typing_facts.proofs.Said.Rows.{rows_left, rows_right}
use Rattle.sw_typing_facts.specs.EnumWords.{in_expr, in_stmt}
use Rattle.sw_lower_total_facts.specs.Proceeding.{BodyIsNumbered}
use Rattle.sw_lower_total_facts.proofs.Binding.Expressions.{block_binds_nothing, expr_binds_nothing}
use Rattle.sw_lower_total_facts.proofs.Induction.Claims.{BlockClaim, ExprClaim, StmtClaim}
use Rattle.sw_lower_total_facts.proofs.Induction.Forms.{stmt_by, tasks_in}
use Rattle.sw_lower_total_facts.proofs.Standing.NoteForms as noted
use Rattle.sw_lower_total_facts.proofs.Standing.Trees as standing
use Rattle.sw_lower_total_facts.proofs.Statements.Loops.{while_proceeds}

module _ (tables : Tables) (number : Numbers) (all : List Note) where
  pub while_case : (inside : Inside) (state : State) (at : ℕ) (cond : Expr) (body : Block)
      (judged : Judged) (one : Left)
      (of_cond : is.Judges tables.world (setting_of inside state) false cond judged)
      (of_body : is.LeavesBlock tables.world (in_loop inside) state body one)
      → ExprClaim tables number all of_cond → BlockClaim tables number all of_body
      → StmtClaim tables number all
      (is.while_of inside state at cond body judged one of_cond of_body)
  unfolding expr_code stmt_code block_code expr_unwritten block_unwritten in_stmt
  while_case inside state at cond body judged one of_cond of_body cond_proceeds body_proceeds
      unmeant none init vars rows numbered context listed same stands =
      let no_tasks = tasks_in _ _ (eq.fold_stmt-While unwritten_steps at cond body) none in
      let cond_words = in_expr tables.world (setting_of inside state) false cond judged of_cond in
      stmt_by tables number context listed inside state _ _ _ _ _
      (noted.notes-While tables.world tables.answers context listed at cond body)
      (eq.fold_stmt-While (code_steps tables inside.owner) at cond body) numbered
      (λ form. while_proceeds tables number context listed inside state _ _
      (expr_code tables inside.owner cond) judged (block_code tables inside.owner body) one
      (cond_proceeds (all_left (λ at. tables.answers.meaning_at at ≡ None) cond_words _ unmeant)
      (none_left _ _ no_tasks) vars
      (rows_left tables.answers judged.rows _
      (rows_left tables.answers (condition_rows judged) one.rows rows))
      (all_left (BodyIsNumbered number) (expr_code tables inside.owner cond).inside _ form) context
      listed same
      (standing.while_cond_stands tables all context listed state.vars at cond body stands))
      (expr_binds_nothing tables inside.owner cond)
      (body_proceeds (all_right (λ at. tables.answers.meaning_at at ≡ None) cond_words _ unmeant)
      (none_right _ _ no_tasks) init vars
      (rows_right tables.answers (condition_rows judged) one.rows rows)
      (all_right (BodyIsNumbered number) (expr_code tables inside.owner cond).inside _ form) context
      listed same
      (standing.while_body_stands tables all context listed state.vars at cond body stands))
      (block_binds_nothing tables inside.owner body))
