-- Statements that hold expressions alone, by how they are judged.
use Rattle.std.proofs.Common.{ℕ, Bool, false, Option, Some, None}
use Rattle.sw_tree.specs.declared.expr.Expr.{Expr}
use Rattle.sw_tree.specs.declared.name.Name.{Name}
use Rattle.sw_tree.specs.declared.operator.AssignOp.{AssignOp}
use Rattle.sw_tree.specs.declared.type_tree.TypeTree.{TypeTree}
use Rattle.sw_tree.proofs.FoldEquations as eq
use Rattle.sw_typing_rules.specs.Expressions.{Judged}
use Rattle.sw_typing_rules.specs.Judges as is
use Rattle.sw_typing_rules.specs.Statements.{State, expects, fixed, marked_result, marked_type}
use Rattle.sw_typing_rules.specs.Statements.{place_type, setting_of, written}
use Rattle.sw_typing_rules.specs.Verdicts.{ill_if}
use Rattle.sw_typing_rules.specs.declared.scope.Inside.{Inside}
use Rattle.sw_isolation_rules.specs.Noting.{see}
use Rattle.sw_lower_rules.specs.Statements.{code_steps, expr_code, stmt_code}
use Rattle.sw_lower_rules.specs.declared.targets.Targets.{Targets}
use Rattle.sw_lower_formed_facts.proofs.Expressions.Typed.{type_of_expr}
use Rattle.sw_typing_facts.proofs.Said.Rows.{rows_left, rows_right}
use Rattle.sw_lower_formed_facts.proofs.Statements.Sequences.{bind_rows, plain_rows, return_rows}
use Rattle.sw_lower_total_facts.proofs.Trees.Places.{is_settable}
use Rattle.sw_lower_placed_facts.specs.Hosts.{Program}
use Rattle.sw_lower_placed_facts.proofs.Forms.Assigning.{assign_placed}
use Rattle.sw_lower_placed_facts.proofs.Forms.Branches.{ignored_placed, leave_placed}
use Rattle.sw_lower_placed_facts.proofs.Forms.Branches.{return_nothing_placed, return_placed}
use Rattle.sw_lower_placed_facts.proofs.Forms.Claims.{ExprClaim, StmtClaim}
use Rattle.sw_lower_placed_facts.proofs.Forms.Declaring.{bind_placed}
use Rattle.sw_lower_placed_facts.proofs.Forms.Joining.{inside_left, inside_right}
use Rattle.sw_lower_placed_facts.proofs.Forms.Noted.{assign_value_noted, bind_value_noted}
use Rattle.sw_lower_placed_facts.proofs.Forms.Noted.{discard_value_noted, plain_value_noted}
use Rattle.sw_lower_placed_facts.proofs.Forms.Noted.{return_value_noted}
use Rattle.sw_lower_placed_facts.proofs.Forms.PlaceNotes.{assign_base_noted, assign_place_noted}
use Rattle.sw_lower_placed_facts.proofs.Forms.PlaceNotes.{assign_stores_noted}
use Rattle.sw_lower_placed_facts.proofs.Forms.Shaping.{stmt_by}
use Rattle.sw_lower_placed_facts.proofs.Forms.Typed.{Sound}
use Rattle.sw_lower_placed_facts.proofs.Forms.Values.{goes_read}

module _ (program : Program) (sound : Sound program) (inside : Inside) (state : State) where
  pub bind_claim : (mutable : Bool) (name : Name) (ty : Option TypeTree) (value : Expr)
      (judged : Judged)
      (of_value : is.Judges program.tables.world (setting_of inside state)
      (marked_type (written program.tables.world ty)) value judged)
      → ExprClaim program of_value
      → StmtClaim program (is.bind inside state mutable name ty value judged of_value)
  unfolding expr_code stmt_code
  bind_claim mutable name ty value judged of_value claim init host is_host same vars rows bodies
      context listed seen noted =
      stmt_by program host _ _
      (eq.fold_stmt-Bind (code_steps program.tables host.owner) mutable name ty value) bodies
      (λ now. record {
        code_is = bind_placed program host sound.settled is_host sound.ground name.at
            (expr_code program.tables host.owner value)
            ((claim host is_host same vars
            (bind_rows program.tables.answers state mutable name (written program.tables.world ty)
            judged rows) now context listed seen).read
            (bind_value_noted program context listed state.vars mutable name ty value noted));
        only = tt;
      })

  pub assign_claim : (at : ℕ) (op : AssignOp) (place value : Expr) (placed judged : Judged)
      (of_place : is.Judges program.tables.world (setting_of inside state) false place placed)
      (of_value : is.Judges program.tables.world (setting_of inside state)
      (marked_type (place_type inside placed)) value judged)
      → ExprClaim program of_place → ExprClaim program of_value
      → StmtClaim program
      (is.assign inside state at op place value placed judged of_place of_value)
  unfolding expr_code stmt_code
  assign_claim at op place value placed judged of_place of_value to_claim claim init host is_host
      same vars rows bodies context listed seen noted =
      let to = expr_code program.tables host.owner place in
      let from = expr_code program.tables host.owner value in
      let place_rows = rows_left program.tables.answers placed.rows _ rows in
      let typed = type_of_expr program.tables (setting_of inside state) false place placed of_place
      vars place_rows in
      let set = is_settable program.tables.answers inside state at op placed judged typed.0 init
      typed.1 rows in
      stmt_by program host _ _
      (eq.fold_stmt-Assign (code_steps program.tables host.owner) at op place value) bodies
      (λ now.
      let to_placed = to_claim host is_host same vars place_rows
      (inside_left program to.inside from.inside now) context listed seen in
      record {
        code_is = assign_placed program host op at to from
            (λ other. to_placed.read
            (assign_place_noted program context listed state.vars at op place value other noted))
            (to_placed.write set (see program.tables.world program.tables.answers place).key
            (assign_base_noted program context listed state.vars at op place value noted)
            (assign_stores_noted program context listed state.vars at op place value noted))
            ((claim host is_host same vars
            (rows_left program.tables.answers judged.rows _
            (rows_right program.tables.answers (ill_if (fixed inside placed) placed.key 404) _
            (rows_right program.tables.answers placed.rows _ rows)))
            (inside_right program to.inside from.inside now) context listed seen).read
            (assign_value_noted program context listed state.vars at op place value noted));
        only = tt;
      })

  pub discard_claim : (at : ℕ) (value : Expr) (judged : Judged)
      (of_value : is.Judges program.tables.world (setting_of inside state) false value judged)
      → ExprClaim program of_value
      → StmtClaim program (is.discard inside state at value judged of_value)
  unfolding expr_code stmt_code
  discard_claim at value judged of_value claim init host is_host same vars rows bodies context
      listed seen noted =
      let code = expr_code program.tables host.owner value in
      stmt_by program host _ _
      (eq.fold_stmt-Discard (code_steps program.tables host.owner) at value) bodies
      (λ now. record {
        code_is = ignored_placed program host program.tables code.read code.inside
            (goes_read program host code
            ((claim host is_host same vars rows now context listed seen).read
            (discard_value_noted program context listed state.vars at value noted)));
        only = tt;
      })

  pub return_nothing_claim : (at : ℕ) → StmtClaim program (is.return_nothing inside state at)
  unfolding stmt_code
  return_nothing_claim at init host is_host same vars rows bodies context listed seen noted =
      stmt_by program host _ _
      (eq.fold_stmt-Return (code_steps program.tables host.owner) at None) bodies
      (λ now. record {
        code_is = return_nothing_placed program host program.tables;
        only = tt;
      })

  pub return_claim : (at : ℕ) (value : Expr) (judged : Judged)
      (of_value : is.Judges program.tables.world (setting_of inside state)
      (marked_result state.returned) value judged)
      → ExprClaim program of_value
      → StmtClaim program (is.return_of inside state at value judged of_value)
  unfolding expr_code stmt_code
  return_claim at value judged of_value claim init host is_host same vars rows bodies context
      listed seen noted =
      let code = expr_code program.tables host.owner value in
      stmt_by program host _ _
      (eq.fold_stmt-Return (code_steps program.tables host.owner) at (Some value)) bodies
      (λ now. record {
        code_is = return_placed program host program.tables code.read code.inside
            (goes_read program host code
            ((claim host is_host same vars
            (return_rows program.tables.answers state.returned state at judged rows) now context
            listed seen).read
            (return_value_noted program context listed state.vars at value noted)));
        only = tt;
      })

  pub break_claim : (at : ℕ) → StmtClaim program (is.break_of inside state at)
  unfolding stmt_code
  break_claim at init host is_host same vars rows bodies context listed seen noted =
      stmt_by program host _ _ (eq.fold_stmt-Break (code_steps program.tables host.owner) at)
      bodies
      (λ now. record {
        code_is = leave_placed program host program.tables (λ (targets : Targets). targets.breaks);
        only = tt;
      })

  pub continue_claim : (at : ℕ) → StmtClaim program (is.continue_of inside state at)
  unfolding stmt_code
  continue_claim at init host is_host same vars rows bodies context listed seen noted =
      stmt_by program host _ _ (eq.fold_stmt-Continue (code_steps program.tables host.owner) at)
      bodies
      (λ now. record {
        code_is = leave_placed program host program.tables
            (λ (targets : Targets). targets.continues);
        only = tt;
      })

  pub plain_claim : (value : Expr) (judged : Judged)
      (of_value : is.Judges program.tables.world (setting_of inside state)
      (expects inside.only state) value judged)
      → ExprClaim program of_value
      → StmtClaim program (is.plain inside state value judged of_value)
  unfolding expr_code stmt_code
  plain_claim value judged of_value claim init host is_host same vars rows bodies context listed
      seen noted =
      let code = expr_code program.tables host.owner value in
      stmt_by program host _ _ (eq.fold_stmt-Plain (code_steps program.tables host.owner) value)
      bodies
      (λ now.
      let read = goes_read program host code
      ((claim host is_host same vars
      (plain_rows program.tables.answers inside.only state judged rows) now context listed
      seen).read (plain_value_noted program context listed state.vars value noted)) in
      record {
        code_is = ignored_placed program host program.tables code.read code.inside read;
        only = read;
      })
