-- A `switch` and its arms.
use Rattle.std.proofs.Common.{◌≡◌, ℕ, true, false, List, [], ◌∷◌, ◌++◌, Option, None, sym, ◌∙◌}
use Rattle.std.proofs.Common.{subst, map, flat_map, is_some, Contains, option_map, unwrap_or}
use Rattle.std.proofs.lemmas.List.Elements.{All-head, All-tail, All-append, All-contains_itself}
use Rattle.std.proofs.lemmas.List.Elements.{All-weaker}
use Rattle.std.specs.Prelude.{All}
use Rattle.sw_tree.specs.Folds.{fold_block, fold_case_arm}
use Rattle.sw_tree.specs.Keys.{joined, pattern_keys}
use Rattle.sw_tree.specs.declared.expr.Expr.{Expr}
use Rattle.sw_tree.specs.declared.expr.Expr.TheOpen as layer
use Rattle.sw_tree.specs.declared.name.Name.{Name}
use Rattle.sw_tree.specs.declared.stmt.Block.{Block}
use Rattle.sw_tree.specs.declared.stmt.CaseArm.{CaseArm, roll-CaseArm}
use Rattle.sw_tree.specs.declared.stmt.Pattern.{Pattern}
use Rattle.sw_tree.specs.declared.stmt.Stmt.TheVariants as stmts
use Rattle.sw_tree.proofs.FoldEquations as eq
use Rattle.sw_tree_facts.specs.Unwritten.{block_unwritten, expr_unwritten, unwritten_steps}
use Rattle.sw_types.specs.declared.shape.CaseShape.{CaseShape}
use Rattle.sw_typing_rules.specs.Expressions.{Judged}
use Rattle.sw_typing_rules.specs.Judges as is
use Rattle.sw_typing_rules.specs.Statements.{Armed, Left, State, arm_payload, arm_vars, beside}
use Rattle.sw_typing_rules.specs.Statements.{cases_of, in_switch, more_arms, in_branch, setting_of}
use Rattle.sw_typing_rules.specs.Statements.{switch_left, vars_rows}
use Rattle.sw_typing_rules.specs.declared.scope.Inside.{Inside}
use Rattle.sw_typing_rules.specs.declared.scope.Var.{Var}
use Rattle.sw_isolation_rules.specs.Captures.{is_among}
use Rattle.sw_isolation_rules.specs.Lists.{vars_in}
use Rattle.sw_isolation_rules.specs.declared.note.Note.{Note}
use Rattle.sw_isolation_rules.specs.declared.uses.Context.{Context}
use Rattle.sw_lower_plans.specs.Plan.{Numbers}
use Rattle.sw_lower_rules.specs.Carriers.{CaseCode}
use Rattle.sw_lower_rules.specs.Statements.{block_code, code_steps, expr_code, inside_of, stmt_code}
use Rattle.sw_lower_rules.specs.Statements.{stmt_layer}
use Rattle.sw_lower_rules.specs.Tables.{Tables}
use Rattle.sw_lower_formed_facts.specs.Forms.{VarHolds, VarsHold}
use Rattle.sw_typing_facts.specs.Rows.{RowsHold}
use Rattle.sw_typing_facts.proofs.Lists.Joined.{all_left, all_right}
use Rattle.sw_typing_facts.proofs.Programs.DeclStands.{none_left, none_right}
use Rattle.sw_typing_facts.proofs.Said.Rows.{rows_left, rows_right}
use Rattle.sw_lower_formed_facts.proofs.Statements.Sequences.{arm_vars_hold, cases_vars, some_still}
use Rattle.sw_lower_total_facts.specs.Bound.{sight_in}
use Rattle.sw_tree.specs.Scopes.{nothing}
use Rattle.sw_typing_facts.specs.EnumWords.{in_block, in_cases, in_expr, in_stmt}
use Rattle.sw_lower_total_facts.specs.Forms.{StmtProceeds}
use Rattle.sw_lower_total_facts.specs.Known.{TablesAgree}
use Rattle.sw_lower_total_facts.specs.Proceeding.{BodyIsNumbered}
use Rattle.sw_lower_total_facts.specs.Trees.{noted_in}
use Rattle.sw_lower_total_facts.proofs.Binding.Expressions.{block_binds_nothing, expr_binds_nothing}
use Rattle.sw_lower_total_facts.proofs.Frames.Induction.{block_stays}
use Rattle.sw_lower_total_facts.proofs.Induction.Claims.{BlockClaim, CasesClaim, ExprClaim, Numbered}
use Rattle.sw_lower_total_facts.proofs.Induction.Claims.{OtherwiseClaim, StmtClaim}
use Rattle.sw_lower_total_facts.proofs.Induction.Forms.{stmt_by, tasks_in}
use Rattle.sw_lower_total_facts.proofs.Standing.NoteForms as noted
use Rattle.sw_lower_total_facts.proofs.Standing.NoteForms.{case_arms_notes, expr_notes, otherwise_notes}
use Rattle.sw_lower_total_facts.proofs.Standing.Own.{pattern_no_var}
use Rattle.sw_lower_total_facts.proofs.Standing.Statements.{case_arm_of}
use Rattle.sw_lower_total_facts.proofs.Standing.Trees as standing
use Rattle.sw_lower_total_facts.proofs.Standing.Trees.{StandCaseArms, StandsBlock, StandsStmt}
use Rattle.sw_lower_total_facts.proofs.Statements.Branches.{OtherwiseProceeds}
use Rattle.sw_lower_total_facts.proofs.Statements.Cases.{CasesProceed, more_cases_proceed}
use Rattle.sw_lower_formed_facts.proofs.Statements.Cases.{HeadFits}
use Rattle.sw_lower_total_facts.proofs.Statements.Cases.{no_cases_proceed}
use Rattle.sw_lower_formed_facts.proofs.Statements.Cases.{switch_well}
use Rattle.sw_lower_formed_facts.proofs.Statements.Sequences.{otherwise_vars}
use Rattle.sw_lower_total_facts.proofs.Statements.Switches.{switch_proceeds}
use Rattle.sw_lower_formed_facts.proofs.Expressions.Typed.{type_of_expr}
use Rattle.sw_lower_total_facts.proofs.Trees.Types.{node_typed}

module _ (tables : Tables) (number : Numbers) (all : List Note) where
  pub switch_case : (inside : Inside) (state : State) (at : ℕ) (subject : Expr)
      (arms : List CaseArm) (other : Option Block) (judged : Judged) (armed : Armed) (last : Left)
      (of_subject : is.Judges tables.world (setting_of inside state) false subject judged)
      (of_cases : is.LeavesCases tables.world (in_switch inside) (cases_of tables.world judged.ty)
      state arms armed)
      (of_other : is.LeavesOtherwise tables.world true (in_switch inside) armed.left.state other
      last)
      → ExprClaim tables number all of_subject → CasesClaim tables number all of_cases
      → OtherwiseClaim tables number all of_other
      → StmtClaim tables number all (is.switch inside state at subject arms other judged armed last
      of_subject of_cases of_other)
  unfolding expr_code stmt_code expr_unwritten in_stmt
  switch_case inside state at subject arms other judged armed last of_subject of_cases of_other
      subject_proceeds cases_proceed other_proceeds unmeant none init vars rows numbered context
      listed same stands =
      let no_tasks = tasks_in _ _ (eq.fold_stmt-Switch unwritten_steps at subject arms other) none
      in
      let none_first = none_left _ (unwrap_or (option_map (fold_block unwritten_steps) other) [])
      no_tasks in
      let subject_words = in_expr tables.world (setting_of inside state) false subject judged
      of_subject in
      let cases_words = in_cases tables.world (in_switch inside) (cases_of tables.world judged.ty)
      state arms armed of_cases in
      let first_unmeant = all_left (λ at. tables.answers.meaning_at at ≡ None)
      (subject_words ++ cases_words) _ unmeant in
      let subject_rows = rows_left tables.answers judged.rows _ rows in
      let inner = rows_left tables.answers (armed.left.rows ++ last.rows) _
      (rows_right tables.answers judged.rows _ rows) in
      let typed = type_of_expr tables (setting_of inside state) false subject judged of_subject vars
      subject_rows in
      let vars_same = cases_vars tables.world (in_switch inside) (cases_of tables.world judged.ty)
      state arms armed of_cases in
      let arms_inside = flat_map (λ (arm : CaseCode). arm.body.inside)
      (map (fold_case_arm (code_steps tables inside.owner)) arms) in
      let has_default = some_still (fold_block (code_steps tables inside.owner)) other in
      stmt_by tables number context listed inside state _ _ _ _ _
      (noted.notes-Switch tables.world tables.answers context listed at subject arms other)
      (eq.fold_stmt-Switch (code_steps tables inside.owner) at subject arms other) numbered
      (λ form.
      let first = all_left (BodyIsNumbered number)
      ((expr_code tables inside.owner subject).inside ++ arms_inside)
      (inside_of (option_map (fold_block (code_steps tables inside.owner)) other)) form in
      subst (λ has. StmtProceeds tables number context listed inside state
      (expr_notes tables.world tables.answers context listed subject
      ++ case_arms_notes tables.world tables.answers arms context listed
      ++ otherwise_notes tables.world tables.answers other context listed)
      (stmt_layer tables (layer.Switch at (expr_code tables inside.owner subject)
      (map (fold_case_arm (code_steps tables inside.owner)) arms)
      (option_map (fold_block (code_steps tables inside.owner)) other)))
      (switch_left (cases_of tables.world judged.ty) at judged armed.heads has
      (beside armed.left last))) has_default
      (switch_proceeds tables number context listed inside state _ _ _ at
      (expr_code tables inside.owner subject) judged typed.0
      (map (fold_case_arm (code_steps tables inside.owner)) arms)
      (option_map (fold_block (code_steps tables inside.owner)) other) armed last typed.1
      (node_typed tables (setting_of inside state) false subject judged of_subject subject_rows
      typed.0 typed.1)
      (otherwise_vars tables.world true (in_switch inside) armed.left.state other last of_other
      ∙ vars_same)
      (subject_proceeds
      (all_left (λ at. tables.answers.meaning_at at ≡ None) subject_words _ first_unmeant)
      (none_left _ _ none_first) vars subject_rows
      (all_left (BodyIsNumbered number) (expr_code tables inside.owner subject).inside arms_inside
      first) context listed same
      (standing.switch_subject_stands tables all context listed state.vars at subject arms other
      stands))
      (expr_binds_nothing tables inside.owner subject)
      (subst (λ has. RowsHold tables.answers (switch_left (cases_of tables.world judged.ty) at
      judged armed.heads has (beside armed.left last)).rows) (sym has_default) rows)
      (cases_proceed
      (all_right (λ at. tables.answers.meaning_at at ≡ None) subject_words _ first_unmeant)
      (none_right (expr_unwritten subject) _ none_first) init vars
      (rows_left tables.answers armed.left.rows last.rows inner)
      (all_right (BodyIsNumbered number) (expr_code tables inside.owner subject).inside arms_inside
      first)
      (switch_well tables.answers (cases_of tables.world judged.ty) at judged armed.heads
      (is_some other) (beside armed.left last) typed.0 typed.1 rows).each context listed same
      (standing.switch_arms_stand tables all context listed state.vars at subject arms other
      stands))
      (subst (λ (these : List Var). OtherwiseProceeds tables number context listed
      (in_switch inside) these (otherwise_notes tables.world tables.answers other context listed)
      (option_map (fold_block (code_steps tables inside.owner)) other)) vars_same
      (other_proceeds
      (all_right (λ at. tables.answers.meaning_at at ≡ None) (subject_words ++ cases_words) _
      unmeant)
      (none_right (expr_unwritten subject ++ joined (map (fold_case_arm unwritten_steps) arms)) _
      no_tasks) init (subst (VarsHold tables.answers) (sym vars_same) vars)
      (rows_right tables.answers armed.left.rows last.rows inner)
      (all_right (BodyIsNumbered number)
      ((expr_code tables inside.owner subject).inside ++ arms_inside)
      (inside_of (option_map (fold_block (code_steps tables inside.owner)) other)) form) context
      listed same
      (λ body has. subst (λ these. StandsBlock tables all context listed these body)
      (sym vars_same)
      (standing.switch_otherwise_stands tables all context listed state.vars at subject arms body
      (subst (λ found. StandsStmt tables all context listed state.vars
      (stmts.Switch at subject arms found)) has stands)))))))

  -- What the patterns of an arm name is no `var`.
  patterns_no_var : (context : Context) (listed : List ℕ) (vars : List Var) (name : Name)
      (patterns : List Pattern) (body : Block) (arms : List CaseArm)
      → StandCaseArms tables all context listed vars (case_arm_of name patterns body ∷ arms)
      → All (λ key. is_among (vars_in all) key ≡ false) (flat_map pattern_keys patterns)
  patterns_no_var context listed vars name patterns body arms stands =
      All-weaker (Contains (flat_map pattern_keys patterns))
      (λ key. is_among (vars_in all) key ≡ false)
      (λ key has.
      pattern_no_var tables.world tables.answers context listed all
      (sight_in tables context.owner vars) nothing name patterns body arms stands key has)
      (flat_map pattern_keys patterns) (All-contains_itself (flat_map pattern_keys patterns))

  -- the arms of a `switch`
  pub no_cases_case : (inside : Inside) (cases : Option (List CaseShape)) (state : State)
      → CasesClaim tables number all (is.no_case inside cases state)
  no_cases_case inside cases state unmeant none init vars rows numbered fit context listed same
      stand =
      no_cases_proceed tables number context listed inside cases state

  pub more_cases_case : (known : TablesAgree tables number all) (inside : Inside)
      (cases : Option (List CaseShape)) (state : State) (name : Name) (patterns : List Pattern)
      (body : Block) (more : List CaseArm) (one : Left) (rest : Armed)
      (of_body : is.LeavesBlock tables.world (in_branch inside)
      (is.arm_state cases state (is.head_of name patterns)) body one)
      (of_more : is.LeavesCases tables.world inside cases
      (is.case_of cases state (is.head_of name patterns) one).state more rest)
      → BlockClaim tables number all of_body → CasesClaim tables number all of_more
      → CasesClaim tables number all
      (is.one_case inside cases state name patterns body more one rest of_body of_more)
  unfolding block_code block_unwritten in_cases
  more_cases_case known inside cases state name patterns body more one rest of_body of_more
      body_proceeds more_proceed unmeant none init vars rows numbered fit context listed same stand
      =
      let head_is = eq.fold_case_arm-roll (code_steps tables inside.owner) name patterns body in
      let now = subst (λ (arm : CaseCode). Numbered number (arm.body.inside
      ++ flat_map (λ (other : CaseCode). other.body.inside)
      (map (fold_case_arm (code_steps tables inside.owner)) more))) head_is numbered in
      let head = is.head_of name patterns in
      let left = is.case_of cases state head one in
      let of_arm = rows_left tables.answers left.rows rest.left.rows rows in
      let new = arm_vars head (arm_payload cases name.id) in
      let body_words = in_block tables.world (in_branch inside) (is.arm_state cases state head) body
      one of_body in
      let armed = more_arms head left rest in
      subst (λ (these : List Note). CasesProceed tables number context listed inside cases
      state.vars (these ++ case_arms_notes tables.world tables.answers more context listed)
      (map (fold_case_arm (code_steps tables inside.owner))
      (case_arm_of name patterns body ∷ more)) armed)
      (sym (noted.notes-case_arm tables.world tables.answers context listed name patterns body))
      (subst (λ (arm : CaseCode). CasesProceed tables number context listed inside cases
      state.vars (noted_in tables number all body context listed
      ++ case_arms_notes tables.world tables.answers more context listed)
      (arm ∷ map (fold_case_arm (code_steps tables inside.owner)) more) armed) (sym head_is)
      (more_cases_proceed tables number context listed all known inside cases state _ _ (record {
        name = name;
        patterns = patterns;
        body = block_code tables inside.owner body;
      }) one (map (fold_case_arm (code_steps tables inside.owner)) more) rest
      (body_proceeds (all_left (λ at. tables.answers.meaning_at at ≡ None) body_words _ unmeant)
      (sym (eq.fold_case_arm-roll unwritten_steps name patterns body) ∙ none_left _ _ none) init
      (All-append (VarHolds tables.answers) state.vars new vars
      (arm_vars_hold tables.answers head (arm_payload cases name.id)
      (All-head (HeadFits cases) head rest.heads fit)
      (rows_left tables.answers (vars_rows new) one.rows of_arm)))
      (rows_right tables.answers (vars_rows new) one.rows of_arm)
      (all_left (BodyIsNumbered number) (block_code tables inside.owner body).inside _ now) context
      listed same
      (standing.case_arm_body_stands tables all context listed state.vars name patterns body more
      (arm_payload cases name.id) stand))
      (block_binds_nothing tables inside.owner body) (block_stays tables inside.owner body)
      (patterns_no_var context listed state.vars name patterns body more stand) of_arm
      (more_proceed (all_right (λ at. tables.answers.meaning_at at ≡ None) body_words _ unmeant)
      (none_right (fold_case_arm unwritten_steps (roll-CaseArm (record {
        name = name;
        patterns = patterns;
        body = body;
      }))) _ none) init vars
      (rows_right tables.answers left.rows rest.left.rows rows)
      (all_right (BodyIsNumbered number) (block_code tables inside.owner body).inside _ now)
      (All-tail (HeadFits cases) head rest.heads fit) context listed same
      (standing.case_arms_more_stand tables all context listed state.vars _ more stand))))
