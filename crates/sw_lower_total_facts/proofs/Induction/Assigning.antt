-- An assignment.
use Rattle.std.proofs.Common.{◌≡◌, ◌≢◌, ℕ, false, List, None, subst}
use Rattle.sw_tree.specs.declared.expr.Expr.{Expr}
use Rattle.sw_tree.specs.declared.operator.AssignOp.{AssignOp}
use Rattle.sw_tree.specs.declared.operator.AssignOp.TheVariants as assigns
use Rattle.sw_tree.specs.declared.stmt.Stmt.TheVariants as stmts
use Rattle.sw_tree.proofs.FoldEquations as eq
use Rattle.sw_tree_facts.specs.Unwritten.{expr_unwritten, unwritten_steps}
use Rattle.sw_graph.specs.declared.instr.Operand.{Operand}
use Rattle.sw_typing_rules.specs.Expressions.{Judged}
use Rattle.sw_typing_rules.specs.Judges as is
use Rattle.sw_typing_rules.specs.Statements.{State, fixed, marked_type, place_type, setting_of}
use Rattle.sw_typing_rules.specs.Verdicts.{ill_if}
use Rattle.sw_typing_rules.specs.declared.scope.Inside.{Inside}
use Rattle.sw_typing_rules.specs.declared.scope.Var.{Var}
use Rattle.sw_isolation_rules.specs.Noting.{Seen, see}
use Rattle.sw_isolation_rules.specs.declared.note.Note.{Note}
use Rattle.sw_isolation_rules.specs.declared.uses.Context.{Context}
use Rattle.sw_lower_plans.specs.Plan.{Numbers}
use Rattle.sw_lower_code.specs.Code.{Code}
use Rattle.sw_lower_rules.specs.Statements.{code_steps, expr_code, stmt_code}
use Rattle.sw_lower_rules.specs.Tables.{Tables}
use Rattle.sw_typing_facts.proofs.Lists.Joined.{all_left, all_right}
use Rattle.sw_typing_facts.proofs.Programs.DeclStands.{none_left, none_right}
use Rattle.sw_typing_facts.proofs.Said.Rows.{rows_left, rows_right}
use Rattle.sw_typing_facts.specs.EnumWords.{in_expr, in_stmt}
use Rattle.sw_lower_total_facts.specs.Forms.{Reads}
use Rattle.sw_lower_total_facts.specs.Proceeding.{BodyIsNumbered}
use Rattle.sw_lower_total_facts.proofs.Binding.Expressions.{expr_binds_nothing}
use Rattle.sw_lower_total_facts.proofs.Induction.Claims.{BaseIn, ExprClaim, PlaceClaim, StmtClaim}
use Rattle.sw_lower_total_facts.proofs.Induction.Forms.{stmt_by, tasks_in}
use Rattle.sw_lower_total_facts.proofs.Induction.Places.{base_in}
use Rattle.sw_lower_total_facts.proofs.Standing.NoteForms as noted
use Rattle.sw_lower_total_facts.proofs.Standing.Trees as standing
use Rattle.sw_lower_total_facts.proofs.Standing.Trees.{StandsStmt}
use Rattle.sw_lower_total_facts.proofs.Statements.Assigning.{ReadsFor, assign_proceeds}
use Rattle.sw_lower_total_facts.proofs.Trees.Places.{is_settable}
use Rattle.sw_lower_formed_facts.proofs.Expressions.Typed.{type_of_expr}

module _ (tables : Tables) (number : Numbers) (all : List Note) where
  -- The base of a member that is assigned stands.
  assigned_base : (context : Context) (listed : List ℕ) (vars : List Var) (at : ℕ) (op : AssignOp)
      (place value : Expr)
      → StandsStmt tables all context listed vars (stmts.Assign at op place value)
      → BaseIn tables number all context listed vars place
  assigned_base context listed vars at assigns.Set place value stands base name is =
      standing.set_base_stands tables all context listed vars at base name value
      (subst (λ these. StandsStmt tables all context listed vars
      (stmts.Assign at assigns.Set these value)) is stands)
  assigned_base context listed vars at assigns.Add place value stands base name is =
      base_in tables number all context listed vars place
      (standing.change_place_stands tables all context listed vars at assigns.Add place value (λ no.
      cc) stands) base name is
  assigned_base context listed vars at assigns.Subtract place value stands base name is =
      base_in tables number all context listed vars place
      (standing.change_place_stands tables all context listed vars at assigns.Subtract place value
      (λ no. cc) stands) base name is
  assigned_base context listed vars at assigns.Multiply place value stands base name is =
      base_in tables number all context listed vars place
      (standing.change_place_stands tables all context listed vars at assigns.Multiply place value
      (λ no. cc) stands) base name is
  assigned_base context listed vars at assigns.Divide place value stands base name is =
      base_in tables number all context listed vars place
      (standing.change_place_stands tables all context listed vars at assigns.Divide place value
      (λ no. cc) stands) base name is
  assigned_base context listed vars at assigns.Remainder place value stands base name is =
      base_in tables number all context listed vars place
      (standing.change_place_stands tables all context listed vars at assigns.Remainder place value
      (λ no. cc) stands) base name is

  -- A place is read by each operator but `=`.
  reads_for : (context : Context) (listed : List ℕ) (vars : List Var) (op : AssignOp) (seen : Seen)
      (code : Code Operand)
      → (op ≢ assigns.Set
      → Reads tables number context listed vars (seen.notes context listed) code)
      → ReadsFor tables number context listed op vars (seen.notes context listed) code
  reads_for context listed vars assigns.Set seen code reads = tt
  reads_for context listed vars assigns.Add seen code reads = reads (λ no. cc)
  reads_for context listed vars assigns.Subtract seen code reads = reads (λ no. cc)
  reads_for context listed vars assigns.Multiply seen code reads = reads (λ no. cc)
  reads_for context listed vars assigns.Divide seen code reads = reads (λ no. cc)
  reads_for context listed vars assigns.Remainder seen code reads = reads (λ no. cc)

  pub assign_case : (inside : Inside) (state : State) (at : ℕ) (op : AssignOp) (place value : Expr)
      (placed judged : Judged)
      (of_place : is.Judges tables.world (setting_of inside state) false place placed)
      (of_value : is.Judges tables.world (setting_of inside state)
      (marked_type (place_type inside placed)) value judged)
      → ExprClaim tables number all of_place → PlaceClaim tables number all of_place
      → ExprClaim tables number all of_value
      → StmtClaim tables number all
      (is.assign inside state at op place value placed judged of_place of_value)
  unfolding expr_code stmt_code expr_unwritten in_stmt
  assign_case inside state at op place value placed judged of_place of_value place_proceeds
      assigned value_proceeds unmeant none init vars rows numbered context listed same stands =
      let no_tasks = tasks_in _ _ (eq.fold_stmt-Assign unwritten_steps at op place value) none in
      let place_words = in_expr tables.world (setting_of inside state) false place placed
      of_place in
      let place_unmeant = all_left (λ at. tables.answers.meaning_at at ≡ None) place_words _
      unmeant in
      let place_rows = rows_left tables.answers placed.rows _ rows in
      let typed = type_of_expr tables (setting_of inside state) false place placed of_place vars
      place_rows in
      let set = is_settable tables.answers inside state at op placed judged typed.0 init typed.1
      rows in
      stmt_by tables number context listed inside state _ _ _ _ _
      (noted.notes-Assign tables.world tables.answers context listed at op place value)
      (eq.fold_stmt-Assign (code_steps tables inside.owner) at op place value) numbered
      (λ form.
      let place_numbered = all_left (BodyIsNumbered number)
      (expr_code tables inside.owner place).inside _ form in
      let is_place = assigned place_unmeant (none_left _ _ no_tasks) vars place_rows
      place_numbered context listed same
      (assigned_base context listed state.vars at op place value stands) set in
      assign_proceeds tables number context listed inside state _ at op
      (see tables.world tables.answers place) (expr_code tables inside.owner place)
      (expr_code tables inside.owner value) placed judged typed.0 init typed.1 is_place.among
      (reads_for context listed state.vars op (see tables.world tables.answers place)
      (expr_code tables inside.owner place).read
      (λ other. (place_proceeds place_unmeant (none_left _ _ no_tasks) vars place_rows
      place_numbered context listed same
      (standing.change_place_stands tables all context listed state.vars at op place value other
      stands)).read))
      (λ settable. is_place.write) is_place.inside
      (expr_binds_nothing tables inside.owner place)
      (value_proceeds (all_right (λ at. tables.answers.meaning_at at ≡ None) place_words _ unmeant)
      (none_right _ _ no_tasks) vars
      (rows_left tables.answers judged.rows _
      (rows_right tables.answers (ill_if (fixed inside placed) placed.key 404) _
      (rows_right tables.answers placed.rows _ rows)))
      (all_right (BodyIsNumbered number) (expr_code tables inside.owner place).inside _ form)
      context
      listed same
      (standing.assign_value_stands tables all context listed state.vars at op place value
      stands)) (expr_binds_nothing tables inside.owner value) rows)
