-- A block and its statements.
use Rattle.std.proofs.Common.{◌≡◌, List, None, map}
use Rattle.sw_tree.specs.Folds.{fold_stmt}
use Rattle.sw_tree.specs.declared.stmt.Stmt.{Stmt}
use Rattle.sw_tree.proofs.FoldEquations as eq
use Rattle.sw_tree_facts.specs.Unwritten.{block_unwritten, unwritten_steps}
use Rattle.sw_typing_rules.specs.Judges as is
use Rattle.sw_typing_rules.specs.Statements.{Left, State, is_one, setting_of, with_only}
use Rattle.sw_typing_rules.specs.declared.scope.Inside.{Inside}
use Rattle.sw_isolation_rules.specs.declared.note.Note.{Note}
use Rattle.sw_lower_plans.specs.Plan.{Numbers}
use Rattle.sw_lower_rules.specs.Statements.{block_code, code_steps, stmt_code}
use Rattle.sw_lower_rules.specs.Tables.{Tables}
use Rattle.sw_typing_facts.proofs.Lists.Joined.{all_left, all_right}
use Rattle.sw_typing_facts.proofs.Programs.DeclStands.{none_left, none_right}
use Rattle.sw_typing_facts.proofs.Said.Rows.{rows_left, rows_right}
use Rattle.sw_lower_formed_facts.proofs.Statements.Sequences.{vars_after}
use Rattle.sw_typing_facts.specs.EnumWords.{in_block, in_stmt, in_stmts}
use Rattle.sw_lower_total_facts.specs.Proceeding.{BodyIsNumbered}
use Rattle.sw_lower_total_facts.proofs.Induction.Claims.{BlockClaim, StmtClaim, StmtsClaim}
use Rattle.sw_lower_total_facts.proofs.Induction.Forms.{block_by, tasks_in}
use Rattle.sw_lower_total_facts.proofs.Standing.NoteForms as noted
use Rattle.sw_lower_total_facts.proofs.Standing.Trees as standing
use Rattle.sw_lower_total_facts.proofs.Statements.Blocks.{block_proceeds, more_stmts_proceed}
use Rattle.sw_lower_total_facts.proofs.Statements.Blocks.{no_stmts_proceed}
use Rattle.sw_lower_formed_facts.proofs.Expressions.Typed.{type_of_expr}

module _ (tables : Tables) (number : Numbers) (all : List Note) where
  pub block_case : (inside : Inside) (state : State) (list : List Stmt) (left : Left)
      (of_stmts : is.LeavesAll tables.world (with_only inside (is_one list)) state list left)
      → StmtsClaim tables number all of_stmts
      → BlockClaim tables number all (is.block inside state list left of_stmts)
  unfolding block_code block_unwritten in_block
  block_case inside state list left of_stmts stmts_proceed unmeant none init vars rows numbered
      context listed same stands =
      block_by tables number context listed inside state _ _ _ _
      (noted.notes-block tables.world tables.answers context listed list)
      (eq.fold_block-roll (code_steps tables inside.owner) list) numbered
      (λ form. block_proceeds tables number context listed inside (is_one list) state _
      (map (fold_stmt (code_steps tables inside.owner)) list)
      (stmts_proceed unmeant
      (tasks_in _ _ (eq.fold_block-roll unwritten_steps list) none) init vars rows form context
      listed same (standing.block_stmts_stand tables all context listed state.vars list stands)))

  pub no_stmts_case : (inside : Inside) (state : State)
      → StmtsClaim tables number all (is.no_stmt inside state)
  no_stmts_case inside state unmeant none init vars rows numbered context listed same stand =
      no_stmts_proceed tables number context listed inside state

  pub more_stmts_case : (inside : Inside) (state : State) (stmt : Stmt) (more : List Stmt)
      (one last : Left) (of_stmt : is.Leaves tables.world inside state stmt one)
      (of_more : is.LeavesAll tables.world inside one.state more last)
      → StmtClaim tables number all of_stmt → StmtsClaim tables number all of_more
      → StmtsClaim tables number all (is.one_stmt inside state stmt more one last of_stmt of_more)
  unfolding stmt_code in_stmts
  more_stmts_case inside state stmt more one last of_stmt of_more first_proceeds more_proceed
      unmeant none init vars rows numbered context listed same stand =
      let first = rows_left tables.answers one.rows last.rows rows in
      let first_words = in_stmt tables.world inside state stmt one of_stmt in
      more_stmts_proceed tables number context listed inside state _ _
      (stmt_code tables inside.owner stmt) (map (fold_stmt (code_steps tables inside.owner)) more)
      one
      (first_proceeds (all_left (λ at. tables.answers.meaning_at at ≡ None) first_words _ unmeant)
      (none_left _ _ none) init vars first
      (all_left (BodyIsNumbered number) (stmt_code tables inside.owner stmt).inside _ numbered)
      context listed same
      (standing.stmts_first_stands tables all context listed state.vars stmt more stand))
      (more_proceed (all_right (λ at. tables.answers.meaning_at at ≡ None) first_words _ unmeant)
      (none_right (fold_stmt unwritten_steps stmt) _ none) init
      (vars_after tables.world tables.answers inside state stmt one of_stmt
      (λ judged expected value judges value_rows. type_of_expr tables (setting_of inside state)
      expected value judged judges vars value_rows) vars first)
      (rows_right tables.answers one.rows last.rows rows)
      (all_right (BodyIsNumbered number) (stmt_code tables inside.owner stmt).inside _ numbered)
      context listed same
      (standing.stmts_after_stand tables all context listed inside state stmt more one of_stmt
      stand))
