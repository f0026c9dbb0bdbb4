-- What each well-typed tree mentions is seen around it, or declared in it.
use Rattle.std.proofs.Common.{◌≡◌, ℕ, Bool, true, false, List, [], ◌++◌, Option, Some, None, ap}
use Rattle.std.proofs.Common.{sym, subst, Contains, flat_map, map, option_map, is_some}
use Rattle.std.proofs.Common.{unwrap_or}
use Rattle.std.proofs.lemmas.List.Elements.{All-append, All-contains}
use Rattle.sw_tree.specs.Folds.{Steps, fold_arg, fold_block, fold_case_arm, fold_closure, fold_expr}
use Rattle.sw_tree.specs.Folds.{fold_if_arm, fold_link, fold_stmt}
use Rattle.sw_tree.specs.declared.expr.Arg.{Arg, roll-Arg}
use Rattle.sw_tree.specs.declared.expr.Closure.{Closure}
use Rattle.sw_tree.specs.declared.expr.Expr.{Expr}
use Rattle.sw_tree.specs.declared.expr.Link.{Link, roll-Link}
use Rattle.sw_tree.specs.declared.name.Name.{Name}
use Rattle.sw_tree.specs.declared.stmt.Block.{Block}
use Rattle.sw_tree.specs.declared.stmt.CaseArm.{CaseArm, roll-CaseArm}
use Rattle.sw_tree.specs.declared.stmt.IfArm.{IfArm, roll-IfArm}
use Rattle.sw_tree.specs.declared.stmt.Stmt.{Stmt}
use Rattle.sw_tree.proofs.FoldEquations as eq
use Rattle.sw_types.specs.declared.shape.CaseShape.{CaseShape}
use Rattle.sw_typing_rules.specs.Calls.{Slot}
use Rattle.sw_typing_rules.specs.Expressions.{Closed, Judged, Passed, base_rows, infix_judged}
use Rattle.sw_typing_rules.specs.Judges as is
use Rattle.sw_typing_rules.specs.Statements.{Armed, Left, State, arm_left, arm_payload, arm_vars}
use Rattle.sw_typing_rules.specs.Statements.{beside, capture_rows, cases_of, closed, closure_state}
use Rattle.sw_typing_rules.specs.Statements.{condition_rows, fixed, heads_fit, in_body, in_loop}
use Rattle.sw_typing_rules.specs.Statements.{in_switch, is_one, in_branch, pattern_types}
use Rattle.sw_typing_rules.specs.Statements.{patterns_fit, setting_of, vars_rows, with_only}
use Rattle.sw_typing_rules.specs.Statements.{written}
use Rattle.sw_typing_rules.specs.Verdicts.{ill_if}
use Rattle.sw_typing_rules.specs.Words.{Setting, local}
use Rattle.sw_typing_rules.specs.declared.scope.Inside.{Inside}
use Rattle.sw_typing_rules.specs.declared.scope.Var.{Var}
use Rattle.sw_typing_rules.proofs.Steps.{and_left, and_right}
use Rattle.sw_isolation_rules.specs.Noting.{Linked, Notes, all_of, block_notes, no_notes}
use Rattle.sw_isolation_rules.specs.Noting.{note_steps}
use Rattle.sw_isolation_rules.specs.declared.uses.Context.{Context}
use Rattle.sw_lower_rules.specs.Tables.{Tables}
use Rattle.sw_lower_formed_facts.specs.Forms.{VarHolds, VarsHold}
use Rattle.sw_typing_facts.specs.Rows.{RowsHold}
use Rattle.sw_lower_formed_facts.proofs.Bodies.ClosureRows.{inner_rows, inner_vars}
use Rattle.sw_lower_formed_facts.proofs.Expressions.Typed.{has_type, rows_before, type_of_expr, member_rows}
use Rattle.sw_typing_facts.proofs.Lists.Joined.{all_left, all_right}
use Rattle.sw_typing_facts.proofs.Said.Rows.{rows_left, rows_right}
use Rattle.sw_lower_formed_facts.proofs.Statements.Sequences.{arm_vars_hold, arms_vars, bind_rows}
use Rattle.sw_lower_formed_facts.proofs.Statements.Sequences.{cases_vars, plain_rows, return_rows}
use Rattle.sw_lower_formed_facts.proofs.Statements.Sequences.{vars_after}
use Rattle.sw_typing_facts.specs.EnumWords.{AreUnmeant, in_args, in_arms, in_base, in_block, in_cases}
use Rattle.sw_typing_facts.specs.EnumWords.{in_closure, in_expr, in_links, in_otherwise, in_stmt}
use Rattle.sw_typing_facts.specs.EnumWords.{in_stmts}
use Rattle.sw_lower_total_facts.specs.Noted.{mentions}
use Rattle.sw_tree.specs.Scopes.{Scoped, block_scoped, declaring, each, maybe}
use Rattle.sw_tree.specs.Scopes.{scope_steps, sequence, using}
use Rattle.sw_lower_total_facts.proofs.Mentions.Bases.{base_within}
use Rattle.sw_lower_total_facts.proofs.Mentions.Closures.{captures_visible, closure_within}
use Rattle.sw_lower_total_facts.proofs.Mentions.Closures.{names_of}
use Rattle.sw_lower_total_facts.proofs.Mentions.Declared.{stmt_declares}
use Rattle.sw_lower_total_facts.proofs.Mentions.Expressions.{await_within, call_within, chain_within}
use Rattle.sw_lower_total_facts.proofs.Mentions.Expressions.{fun_within, me_within, member_within}
use Rattle.sw_lower_total_facts.proofs.Mentions.Expressions.{method_within, notes_by, prefix_within}
use Rattle.sw_lower_total_facts.proofs.Mentions.Expressions.{seen_by, spawn_within, stmt_by}
use Rattle.sw_lower_total_facts.proofs.Mentions.Expressions.{value_within, word_within}
use Rattle.sw_lower_total_facts.proofs.Mentions.Expressions.{yield_within}
use Rattle.sw_lower_total_facts.proofs.Mentions.Notes.{mentions_are}
use Rattle.sw_lower_total_facts.proofs.Mentions.Seen.{IsSeen, SeenWithin, Within, within_joined}
use Rattle.sw_lower_total_facts.proofs.Mentions.Silent.{stores_silent}
use Rattle.sw_lower_total_facts.proofs.Mentions.Statements.{assign_within, bind_within, case_within}
use Rattle.sw_lower_total_facts.proofs.Mentions.Statements.{heads_of, then_within, three_within}
use Rattle.sw_lower_total_facts.proofs.Mentions.Words.{call_visible, word_visible}

module _ (tables : Tables) where
  abbrev steps : Steps
  steps = note_steps tables.world tables.answers

  abbrev Unmeant : ℕ → Type 0
  Unmeant at = tables.answers.meaning_at at ≡ None

  mutual
    unfolding in_expr

    -- an expression
    expr_in : (setting : Setting) (expected : Bool) (expr : Expr) (judged : Judged)
        (judges : is.Judges tables.world setting expected expr judged)
        → AreUnmeant tables.answers (in_expr tables.world setting expected expr judged judges)
        → VarsHold tables.answers setting.vars → RowsHold tables.answers judged.rows
        → SeenWithin tables setting.vars (fold_expr scope_steps expr) (fold_expr steps expr)
    expr_in setting expected expr judged (is.int _ _ at value) unmeant vars rows =
        seen_by tables setting.vars _ _ _ _ (eq.fold_expr-Int steps at value)
        (eq.fold_expr-Int scope_steps at value)
        (value_within tables setting.vars _ at no_notes (λ context listed. tt))
    expr_in setting expected expr judged (is.bool _ _ at value) unmeant vars rows =
        seen_by tables setting.vars _ _ _ _ (eq.fold_expr-Bool steps at value)
        (eq.fold_expr-Bool scope_steps at value)
        (value_within tables setting.vars _ at no_notes (λ context listed. tt))
    expr_in setting expected expr judged (is.word _ _ name) unmeant vars rows =
        seen_by tables setting.vars _ _ _ _ (eq.fold_expr-Use steps name)
        (eq.fold_expr-Use scope_steps name)
        (word_within tables setting.vars (using name) name.at
        (word_visible tables.world tables.answers setting name rows))
    expr_in setting expected expr judged (is.me _ _ at) unmeant vars rows =
        seen_by tables setting.vars _ _ _ _ (eq.fold_expr-Me steps at)
        (eq.fold_expr-Me scope_steps at) (me_within tables setting.vars _ at)
    expr_in setting expected expr judged (is.member _ _ base name one of_base) unmeant vars rows =
        seen_by tables setting.vars _ _ _ _ (eq.fold_expr-Member steps base name)
        (eq.fold_expr-Member scope_steps base name)
        (member_within tables setting.vars (fold_expr scope_steps base) (fold_expr steps base)
        name.at
        (base_within tables setting.vars (fold_expr scope_steps base)
        (in_expr tables.world setting false base one of_base) setting base one of_base
        (λ none hold. (expr_in setting false base one of_base none vars hold).notes) unmeant
        (member_rows tables.world tables.answers one name rows)))
    expr_in setting expected expr judged (is.call _ _ name args passed of_args) unmeant vars rows =
        seen_by tables setting.vars _ _ _ _ (eq.fold_expr-Call steps name args)
        (eq.fold_expr-Call scope_steps name args)
        (call_within tables setting.vars (each (map (fold_arg scope_steps) args)) name
        (map (fold_arg steps) args)
        (call_visible tables.world tables.answers setting name [] passed
        (has_type tables setting expected expr judged (is.call _ _ name args passed of_args) vars
        rows) rows)
        (args_in setting _ args passed of_args unmeant vars
        (rows_left tables.answers passed.rows _ (rows_left tables.answers _ _ rows))))
    expr_in setting expected expr judged
        (is.method _ _ base name args one passed of_base of_args) unmeant vars rows =
        let noted = rows_left tables.answers _ _ rows in
        let inner = in_expr tables.world setting false base one of_base in
        seen_by tables setting.vars _ _ _ _ (eq.fold_expr-Method steps base name args)
        (eq.fold_expr-Method scope_steps base name args)
        (method_within tables setting.vars (fold_expr scope_steps base)
        (each (map (fold_arg scope_steps) args)) (fold_expr steps base) name.at
        (map (fold_arg steps) args)
        (base_within tables setting.vars (fold_expr scope_steps base) inner setting base one of_base
        (λ none hold. (expr_in setting false base one of_base none vars hold).notes)
        (all_left Unmeant (in_base one inner) _ unmeant)
        (rows_left tables.answers (base_rows one) _ noted))
        (args_in setting _ args passed of_args (all_right Unmeant (in_base one inner) _ unmeant)
        vars
        (rows_left tables.answers passed.rows _
        (rows_right tables.answers (base_rows one) _ noted))))
    expr_in setting expected expr judged
        (is.chain _ _ first rest left _ of_first of_rest) unmeant vars rows =
        let inner = in_expr tables.world setting false first left of_first in
        seen_by tables setting.vars _ _ _ _ (eq.fold_expr-Chain steps first rest)
        (eq.fold_expr-Chain scope_steps first rest)
        (chain_within tables setting.vars (fold_expr scope_steps first)
        (each (map (fold_link scope_steps) rest)) _ (fold_expr steps first)
        (map (fold_link steps) rest)
        (expr_in setting false first left of_first (all_left Unmeant inner _ unmeant) vars
        (rows_before tables setting left judged rest of_rest rows)).notes
        (links_in setting left rest judged of_rest (all_right Unmeant inner _ unmeant) vars rows))
    expr_in setting expected expr judged (is.prefix _ _ op at inner one of_inner) unmeant vars
        rows =
        seen_by tables setting.vars _ _ _ _ (eq.fold_expr-Prefix steps op at inner)
        (eq.fold_expr-Prefix scope_steps op at inner)
        (prefix_within tables setting.vars (fold_expr scope_steps inner) at (fold_expr steps inner)
        (expr_in setting false inner one of_inner unmeant vars
        (rows_left tables.answers one.rows _ rows)).notes)
    expr_in setting expected expr judged (is.await _ _ at inner one of_inner) unmeant vars rows =
        seen_by tables setting.vars _ _ _ _ (eq.fold_expr-Await steps at inner)
        (eq.fold_expr-Await scope_steps at inner)
        (await_within tables setting.vars (fold_expr scope_steps inner) at (fold_expr steps inner)
        (expr_in setting false inner one of_inner unmeant vars
        (rows_left tables.answers one.rows _ rows)).notes)
    expr_in setting expected expr judged (is.fun _ _ closure closed of_closure) unmeant vars rows =
        seen_by tables setting.vars _ _ _ _ (eq.fold_expr-Fun steps closure)
        (eq.fold_expr-Fun scope_steps closure)
        (fun_within tables setting.vars (fold_closure scope_steps closure)
        (fold_closure steps closure)
        (closure_in setting closure closed of_closure unmeant vars
        (rows_left tables.answers closed.rows _ rows)))
    expr_in setting expected expr judged (is.spawn _ _ at detached body closed of_body) unmeant
        vars rows =
        seen_by tables setting.vars _ _ _ _ (eq.fold_expr-Spawn steps at detached body)
        (eq.fold_expr-Spawn scope_steps at detached body)
        (spawn_within tables setting.vars (fold_closure scope_steps body) at detached
        (fold_closure steps body)
        (closure_in setting body closed of_body unmeant vars
        (rows_left tables.answers closed.rows _ rows)))
    expr_in setting expected expr judged (is.yield _ _ at) unmeant vars rows =
        seen_by tables setting.vars _ _ _ _ (eq.fold_expr-Yield steps at)
        (eq.fold_expr-Yield scope_steps at) (yield_within tables setting.vars _ at)

    -- arguments
    args_in : (setting : Setting) (slots : List Slot) (args : List Arg) (passed : Passed)
        (passes : is.Passes tables.world setting slots args passed)
        → AreUnmeant tables.answers (in_args tables.world setting slots args passed passes)
        → VarsHold tables.answers setting.vars → RowsHold tables.answers passed.rows
        → Within tables setting.vars (each (map (fold_arg scope_steps) args))
        (all_of (map (fold_arg steps) args))
    args_in setting slots args passed (is.passes_none _ _) unmeant vars rows =
        λ context listed. tt
    args_in setting slots args passed
        (is.passes_one _ _ label value more one rest of_value of_rest) unmeant vars rows =
        let inner = in_expr tables.world setting _ value one of_value in
        let form = fold_arg scope_steps (roll-Arg (record { label = label; value = value })) in
        within_joined tables setting.vars form (each (map (fold_arg scope_steps) more)) _ _
        (notes_by tables setting.vars _ _ _ _ (eq.fold_arg-roll steps label value)
        (eq.fold_arg-roll scope_steps label value)
        (expr_in setting _ value one of_value (all_left Unmeant inner _ unmeant) vars
        (rows_left tables.answers one.rows rest.rows rows)).notes)
        (args_in setting _ more rest of_rest (all_right Unmeant inner _ unmeant) vars
        (rows_right tables.answers one.rows rest.rows rows))

    -- the operators of a chain
    links_in : (setting : Setting) (left : Judged) (links : List Link) (judged : Judged)
        (all : is.Links tables.world setting left links judged)
        → AreUnmeant tables.answers (in_links tables.world setting left links judged all)
        → VarsHold tables.answers setting.vars → RowsHold tables.answers judged.rows
        → Within tables setting.vars (each (map (fold_link scope_steps) links))
        (all_of (map (λ (link : Linked). link.operand) (map (fold_link steps) links)))
    links_in setting left links judged (is.no_link _ _) unmeant vars rows = λ context listed. tt
    links_in setting left links judged
        (is.one_link _ _ op at operand more right _ of_right rest) unmeant vars rows =
        let inner = in_expr tables.world setting false operand right of_right in
        let noted = rows_before tables setting (infix_judged op at left right) judged more rest rows
        in
        let form = fold_link scope_steps
        (roll-Link (record { op = op; at = at; operand = operand })) in
        within_joined tables setting.vars form (each (map (fold_link scope_steps) more)) _ _
        (notes_by tables setting.vars _ _ _ _
        (ap (λ (link : Linked). link.operand) (eq.fold_link-roll steps op at operand))
        (eq.fold_link-roll scope_steps op at operand)
        (expr_in setting false operand right of_right (all_left Unmeant inner _ unmeant) vars
        (rows_right tables.answers left.rows right.rows
        (rows_left tables.answers (left.rows ++ right.rows) _ noted))).notes)
        (links_in setting (infix_judged op at left right) more judged rest
        (all_right Unmeant inner _ unmeant) vars rows)

    -- a closure, or the body of a task
    closure_in : (setting : Setting) (closure : Closure) (closed : Closed)
        (closes : is.Closes tables.world setting closure closed)
        → AreUnmeant tables.answers (in_closure tables.world setting closure closed closes)
        → VarsHold tables.answers setting.vars → RowsHold tables.answers closed.rows
        → Within tables setting.vars (fold_closure scope_steps closure)
        (fold_closure steps closure).inside
    closure_in setting closure closed
        (is.closes _ at mark captures params result body left of_body) unmeant vars rows =
        notes_by tables setting.vars _ _ _ _
        (ap (λ inner. inner.inside)
        (eq.fold_closure-roll steps at mark captures params result body))
        (eq.fold_closure-roll scope_steps at mark captures params result body)
        (closure_within tables setting.vars at captures params (fold_block scope_steps body)
        (fold_block steps body)
        (captures_visible tables.answers setting.vars at captures
        (declaring (names_of params) captures (fold_block scope_steps body))
        (rows_left tables.answers
        (flat_map (λ (word : Name). capture_rows word (local setting.vars word.id)) captures) _
        rows))
        (block_in (in_body setting.owner false)
        (closure_state tables.world setting captures params result) body left of_body unmeant
        (inner_vars tables.answers tables.world setting at mark captures params left vars rows)
        (inner_rows tables.answers tables.world setting at mark captures params left rows)))

    -- a statement
    stmt_in : (inside : Inside) (state : State) (stmt : Stmt) (left : Left)
        (leaves : is.Leaves tables.world inside state stmt left)
        → AreUnmeant tables.answers (in_stmt tables.world inside state stmt left leaves)
        → VarsHold tables.answers state.vars → RowsHold tables.answers left.rows
        → Within tables state.vars (fold_stmt scope_steps stmt).inside
        (fold_stmt steps stmt)
    stmt_in inside state stmt left (is.bind _ _ mutable name ty value judged of_value) unmeant vars
        rows =
        stmt_by tables state.vars _ _ _ _ (eq.fold_stmt-Bind steps mutable name ty value)
        (eq.fold_stmt-Bind scope_steps mutable name ty value)
        (bind_within tables state.vars (fold_expr scope_steps value) mutable name.at
        (fold_expr steps value).notes
        (expr_in (setting_of inside state) _ value judged of_value unmeant vars
        (bind_rows tables.answers state mutable name (written tables.world ty) judged rows)).notes)
    stmt_in inside state stmt left
        (is.assign _ _ at op place value placed judged of_place of_value) unmeant vars rows =
        let inner = in_expr tables.world (setting_of inside state) false place placed of_place in
        stmt_by tables state.vars _ _ _ _ (eq.fold_stmt-Assign steps at op place value)
        (eq.fold_stmt-Assign scope_steps at op place value)
        (assign_within tables state.vars (fold_expr scope_steps place)
        (fold_expr scope_steps value) op (fold_expr steps place) (fold_expr steps value)
        (expr_in (setting_of inside state) false place placed of_place
        (all_left Unmeant inner _ unmeant) vars (rows_left tables.answers placed.rows _ rows))
        (stores_silent tables.world tables.answers place)
        (expr_in (setting_of inside state) _ value judged of_value
        (all_right Unmeant inner _ unmeant) vars
        (rows_left tables.answers judged.rows _
        (rows_right tables.answers (ill_if (fixed inside placed) placed.key 404) _
        (rows_right tables.answers placed.rows _ rows)))).notes)
    stmt_in inside state stmt left (is.discard _ _ at value judged of_value) unmeant vars rows =
        stmt_by tables state.vars _ _ _ _ (eq.fold_stmt-Discard steps at value)
        (eq.fold_stmt-Discard scope_steps at value)
        (expr_in (setting_of inside state) false value judged of_value unmeant vars rows).notes
    stmt_in inside state stmt left (is.if_of _ _ arms other one last of_arms of_other) unmeant vars
        rows =
        let inner = in_arms tables.world inside state arms one of_arms in
        let same = arms_vars tables.world inside state arms one of_arms in
        stmt_by tables state.vars _ _ _ _ (eq.fold_stmt-If steps arms other)
        (eq.fold_stmt-If scope_steps arms other)
        (within_joined tables state.vars (each (map (fold_if_arm scope_steps) arms))
        (maybe (option_map (fold_block scope_steps) other))
        (all_of (map (fold_if_arm steps) arms)) _
        (arms_in inside state arms one of_arms (all_left Unmeant inner _ unmeant) vars
        (rows_left tables.answers one.rows last.rows rows))
        (subst (λ seen. Within tables seen
        (maybe (option_map (fold_block scope_steps) other))
        (unwrap_or (option_map (fold_block steps) other) no_notes)) same
        (other_in false inside one.state other last of_other (all_right Unmeant inner _ unmeant)
        (subst (VarsHold tables.answers) (sym same) vars)
        (rows_right tables.answers one.rows last.rows rows))))
    stmt_in inside state stmt left (is.while_of _ _ at cond body judged one of_cond of_body)
        unmeant vars rows =
        let inner = in_expr tables.world (setting_of inside state) false cond judged of_cond in
        stmt_by tables state.vars _ _ _ _ (eq.fold_stmt-While steps at cond body)
        (eq.fold_stmt-While scope_steps at cond body)
        (within_joined tables state.vars (fold_expr scope_steps cond) (fold_block scope_steps body)
        (fold_expr steps cond).notes (fold_block steps body)
        (expr_in (setting_of inside state) false cond judged of_cond
        (all_left Unmeant inner _ unmeant) vars
        (rows_left tables.answers judged.rows _
        (rows_left tables.answers (condition_rows judged) one.rows rows))).notes
        (block_in (in_loop inside) state body one of_body (all_right Unmeant inner _ unmeant) vars
        (rows_right tables.answers (condition_rows judged) one.rows rows)))
    stmt_in inside state stmt left (is.switch _ _ at subject arms other judged armed last
        of_subject of_cases of_other) unmeant vars rows =
        let inner = in_expr tables.world (setting_of inside state) false subject judged
        of_subject in
        let cases = in_cases tables.world (in_switch inside) (cases_of tables.world judged.ty) state
        arms armed of_cases in
        let same = cases_vars tables.world (in_switch inside) (cases_of tables.world judged.ty)
        state arms armed of_cases in
        let subject_rows = rows_left tables.answers judged.rows _ rows in
        let more = rows_left tables.answers (armed.left.rows ++ last.rows) _
        (rows_right tables.answers judged.rows _ rows) in
        let before = all_left Unmeant (inner ++ cases) _ unmeant in
        stmt_by tables state.vars _ _ _ _ (eq.fold_stmt-Switch steps at subject arms other)
        (eq.fold_stmt-Switch scope_steps at subject arms other)
        (three_within tables state.vars (fold_expr scope_steps subject)
        (each (map (fold_case_arm scope_steps) arms))
        (maybe (option_map (fold_block scope_steps) other)) (fold_expr steps subject).notes
        (all_of (map (fold_case_arm steps) arms)) _
        (expr_in (setting_of inside state) false subject judged of_subject
        (all_left Unmeant inner cases before) vars subject_rows).notes
        (cases_in (in_switch inside) (cases_of tables.world judged.ty) state arms armed of_cases
        (heads_of tables.answers (cases_of tables.world judged.ty) at judged armed.heads
        (is_some other) (beside armed.left last)
        (has_type tables (setting_of inside state) false subject judged of_subject vars
        subject_rows) rows) (all_right Unmeant inner cases before) vars
        (rows_left tables.answers armed.left.rows last.rows more))
        (subst (λ seen. Within tables seen
        (maybe (option_map (fold_block scope_steps) other))
        (unwrap_or (option_map (fold_block steps) other) no_notes)) same
        (other_in true (in_switch inside) armed.left.state other last of_other
        (all_right Unmeant (inner ++ cases) _ unmeant)
        (subst (VarsHold tables.answers) (sym same) vars)
        (rows_right tables.answers armed.left.rows last.rows more))))
    stmt_in inside state stmt left (is.return_nothing _ _ at) unmeant vars rows =
        stmt_by tables state.vars _ _ _ _ (eq.fold_stmt-Return steps at None)
        (eq.fold_stmt-Return scope_steps at None) (λ context listed. tt)
    stmt_in inside state stmt left (is.return_of _ _ at value judged of_value) unmeant vars rows =
        stmt_by tables state.vars _ _ _ _ (eq.fold_stmt-Return steps at (Some value))
        (eq.fold_stmt-Return scope_steps at (Some value))
        (expr_in (setting_of inside state) _ value judged of_value unmeant vars
        (return_rows tables.answers state.returned state at judged rows)).notes
    stmt_in inside state stmt left (is.break_of _ _ at) unmeant vars rows =
        stmt_by tables state.vars _ _ _ _ (eq.fold_stmt-Break steps at)
        (eq.fold_stmt-Break scope_steps at) (λ context listed. tt)
    stmt_in inside state stmt left (is.continue_of _ _ at) unmeant vars rows =
        stmt_by tables state.vars _ _ _ _ (eq.fold_stmt-Continue steps at)
        (eq.fold_stmt-Continue scope_steps at) (λ context listed. tt)
    stmt_in inside state stmt left (is.plain _ _ value judged of_value) unmeant vars rows =
        stmt_by tables state.vars _ _ _ _ (eq.fold_stmt-Plain steps value)
        (eq.fold_stmt-Plain scope_steps value)
        (expr_in (setting_of inside state) _ value judged of_value unmeant vars
        (plain_rows tables.answers inside.only state judged rows)).notes

    -- statements
    stmts_in : (inside : Inside) (state : State) (stmts : List Stmt) (left : Left)
        (leaves : is.LeavesAll tables.world inside state stmts left)
        → AreUnmeant tables.answers (in_stmts tables.world inside state stmts left leaves)
        → VarsHold tables.answers state.vars → RowsHold tables.answers left.rows
        → Within tables state.vars (sequence (map (fold_stmt scope_steps) stmts))
        (all_of (map (fold_stmt steps) stmts))
    stmts_in inside state stmts left (is.no_stmt _ _) unmeant vars rows = λ context listed. tt
    stmts_in inside state stmts left (is.one_stmt _ _ stmt more one last of_stmt of_more) unmeant
        vars rows =
        let inner = in_stmt tables.world inside state stmt one of_stmt in
        let first = rows_left tables.answers one.rows last.rows rows in
        let stated = fold_stmt scope_steps stmt in
        then_within tables state.vars one.state.vars stated.names stated.inside
        (sequence (map (fold_stmt scope_steps) more)) (fold_stmt steps stmt) _
        (stmt_declares tables.world inside state stmt one of_stmt)
        (stmt_in inside state stmt one of_stmt (all_left Unmeant inner _ unmeant) vars first)
        (stmts_in inside one.state more last of_more (all_right Unmeant inner _ unmeant)
        (vars_after tables.world tables.answers inside state stmt one of_stmt
        (λ judged expected value judges hold.
        type_of_expr tables (setting_of inside state) expected value judged judges vars hold) vars
        first) (rows_right tables.answers one.rows last.rows rows))

    -- a block
    block_in : (inside : Inside) (state : State) (block : Block) (left : Left)
        (leaves : is.LeavesBlock tables.world inside state block left)
        → AreUnmeant tables.answers (in_block tables.world inside state block left leaves)
        → VarsHold tables.answers state.vars → RowsHold tables.answers left.rows
        → Within tables state.vars (fold_block scope_steps block) (fold_block steps block)
    block_in inside state block left (is.block _ _ stmts _ of_stmts) unmeant vars rows =
        notes_by tables state.vars _ _ _ _ (eq.fold_block-roll steps stmts)
        (eq.fold_block-roll scope_steps stmts)
        (stmts_in (with_only inside (is_one stmts)) state stmts left of_stmts unmeant vars rows)

    -- the arms of an `if`
    arms_in : (inside : Inside) (state : State) (arms : List IfArm) (left : Left)
        (leaves : is.LeavesArms tables.world inside state arms left)
        → AreUnmeant tables.answers (in_arms tables.world inside state arms left leaves)
        → VarsHold tables.answers state.vars → RowsHold tables.answers left.rows
        → Within tables state.vars (each (map (fold_if_arm scope_steps) arms))
        (all_of (map (fold_if_arm steps) arms))
    arms_in inside state arms left (is.no_arm _ _) unmeant vars rows = λ context listed. tt
    arms_in inside state arms left
        (is.one_arm _ _ at cond body more judged one last of_cond of_body of_more) unmeant vars
        rows =
        let inner = in_expr tables.world (setting_of inside state) false cond judged of_cond in
        let block = in_block tables.world (in_branch inside) state body one of_body in
        let own = all_left Unmeant (inner ++ block) _ unmeant in
        let noted = rows_left tables.answers (arm_left state judged one).rows last.rows rows in
        let form = fold_if_arm scope_steps
        (roll-IfArm (record { at = at; cond = cond; body = body })) in
        within_joined tables state.vars form (each (map (fold_if_arm scope_steps) more)) _ _
        (notes_by tables state.vars _ _ _ _ (eq.fold_if_arm-roll steps at cond body)
        (eq.fold_if_arm-roll scope_steps at cond body)
        (within_joined tables state.vars (fold_expr scope_steps cond) (fold_block scope_steps body)
        (fold_expr steps cond).notes (fold_block steps body)
        (expr_in (setting_of inside state) false cond judged of_cond
        (all_left Unmeant inner block own) vars
        (rows_left tables.answers judged.rows _
        (rows_left tables.answers (condition_rows judged) one.rows noted))).notes
        (block_in (in_branch inside) state body one of_body (all_right Unmeant inner block own) vars
        (rows_right tables.answers (condition_rows judged) one.rows noted))))
        (arms_in inside (arm_left state judged one).state more last of_more
        (all_right Unmeant (inner ++ block) _ unmeant) vars
        (rows_right tables.answers (arm_left state judged one).rows last.rows rows))

    -- `else` and `default`
    other_in : (ends : Bool) (inside : Inside) (state : State) (other : Option Block) (left : Left)
        (leaves : is.LeavesOtherwise tables.world ends inside state other left)
        → AreUnmeant tables.answers (in_otherwise tables.world ends inside state other left leaves)
        → VarsHold tables.answers state.vars → RowsHold tables.answers left.rows
        → Within tables state.vars (maybe (option_map (fold_block scope_steps) other))
        (unwrap_or (option_map (fold_block steps) other) no_notes)
    other_in ends inside state other left (is.absent _ _) unmeant vars rows =
        λ context listed. tt
    other_in ends inside state other left (is.absent_default _ _) unmeant vars rows =
        λ context listed. tt
    other_in ends inside state other left (is.present _ _ _ body one of_body) unmeant vars rows =
        block_in (in_branch inside) state body one of_body unmeant vars rows

    -- the arms of a `switch`
    cases_in : (inside : Inside) (cases : Option (List CaseShape)) (state : State)
        (arms : List CaseArm) (armed : Armed)
        (leaves : is.LeavesCases tables.world inside cases state arms armed)
        → heads_fit cases armed.heads ≡ true
        → AreUnmeant tables.answers (in_cases tables.world inside cases state arms armed leaves)
        → VarsHold tables.answers state.vars → RowsHold tables.answers armed.left.rows
        → Within tables state.vars (each (map (fold_case_arm scope_steps) arms))
        (all_of (map (fold_case_arm steps) arms))
    cases_in inside cases state arms armed (is.no_case _ _ _) fit unmeant vars rows =
        λ context listed. tt
    cases_in inside cases state arms armed (is.one_case _ _ _ name patterns body more one rest
        of_body of_more) fit unmeant vars rows =
        let head = is.head_of name patterns in
        let payload = arm_payload cases name.id in
        let new = arm_vars head payload in
        let left = is.case_of cases state head one in
        let inner =
        in_block tables.world (in_branch inside) (is.arm_state cases state head) body one
        of_body in
        let noted = rows_left tables.answers left.rows rest.left.rows rows in
        let fits = and_left (patterns_fit patterns payload) (heads_fit cases rest.heads) fit in
        let form = fold_case_arm scope_steps
        (roll-CaseArm (record { name = name; patterns = patterns; body = body })) in
        within_joined tables state.vars form (each (map (fold_case_arm scope_steps) more)) _ _
        (notes_by tables state.vars _ _ _ _ (eq.fold_case_arm-roll steps name patterns body)
        (eq.fold_case_arm-roll scope_steps name patterns body)
        (case_within tables state.vars patterns (pattern_types patterns payload)
        (fold_block scope_steps body) (fold_block steps body)
        (block_in (in_branch inside) (is.arm_state cases state head) body one of_body
        (all_left Unmeant inner _ unmeant)
        (All-append (VarHolds tables.answers) state.vars new vars
        (arm_vars_hold tables.answers head payload fits
        (rows_left tables.answers (vars_rows new) one.rows noted)))
        (rows_right tables.answers (vars_rows new) one.rows noted))))
        (cases_in inside cases left.state more rest of_more
        (and_right (patterns_fit patterns payload) (heads_fit cases rest.heads) fit)
        (all_right Unmeant inner _ unmeant) vars
        (rows_right tables.answers left.rows rest.left.rows rows))

  -- Wherever notes are taken, what they mention is seen or declared in the tree.
  abbrev pub MentionsSeen : List Var → Scoped → Notes → Type 0
  MentionsSeen vars scoped notes = (context : Context) (listed : List ℕ) (variable : ℕ)
      → Contains (mentions (notes context listed)) variable
      → IsSeen tables context.owner vars scoped variable

  mentions_in : (vars : List Var) (scoped : Scoped) (notes : Notes)
      → Within tables vars scoped notes → MentionsSeen vars scoped notes
  mentions_in vars scoped notes within context listed variable mentioned =
      All-contains (IsSeen tables context.owner vars scoped) (mentions (notes context listed))
      variable
      (mentions_are (IsSeen tables context.owner vars scoped) (notes context listed)
      (within context listed)) mentioned

  -- Each variable that a well-typed block mentions is seen around it, or declared in it.
  pub block_mentions_seen : (inside : Inside) (state : State) (block : Block) (left : Left)
      (leaves : is.LeavesBlock tables.world inside state block left)
      → AreUnmeant tables.answers (in_block tables.world inside state block left leaves)
      → VarsHold tables.answers state.vars → RowsHold tables.answers left.rows
      → MentionsSeen state.vars (block_scoped block)
      (block_notes tables.world tables.answers block)
  unfolding block_notes block_scoped
  block_mentions_seen inside state block left leaves unmeant vars rows =
      mentions_in state.vars (fold_block scope_steps block) (fold_block steps block)
      (block_in inside state block left leaves unmeant vars rows)
