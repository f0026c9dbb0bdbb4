-- An `if`, its arms, and an `else` or a `default`.
use Rattle.std.proofs.Common.{◌≡◌, ℕ, Bool, false, List, ◌∷◌, ◌++◌, Option, None, refl, sym, ◌∙◌}
use Rattle.std.proofs.Common.{subst, map, flat_map, option_map}
use Rattle.sw_tree.specs.Folds.{fold_block, fold_if_arm}
use Rattle.sw_tree.specs.declared.expr.Expr.{Expr}
use Rattle.sw_tree.specs.declared.stmt.Block.{Block}
use Rattle.sw_tree.specs.declared.stmt.IfArm.{IfArm, roll-IfArm}
use Rattle.sw_tree.specs.declared.stmt.Stmt.TheVariants as stmts
use Rattle.sw_tree.proofs.FoldEquations as eq
use Rattle.sw_tree_facts.specs.Unwritten.{block_unwritten, expr_unwritten, unwritten_steps}
use Rattle.sw_typing_rules.specs.Expressions.{Judged}
use Rattle.sw_typing_rules.specs.Judges as is
use Rattle.sw_typing_rules.specs.Statements.{Left, State, arm_left, condition_rows, in_branch}
use Rattle.sw_typing_rules.specs.Statements.{setting_of}
use Rattle.sw_typing_rules.specs.declared.scope.Inside.{Inside}
use Rattle.sw_typing_rules.specs.declared.scope.Var.{Var}
use Rattle.sw_isolation_rules.specs.declared.note.Note.{Note}
use Rattle.sw_lower_plans.specs.Plan.{Numbers}
use Rattle.sw_lower_rules.specs.Carriers.{IfCode}
use Rattle.sw_lower_rules.specs.Statements.{block_code, code_steps, expr_code, stmt_code}
use Rattle.sw_lower_rules.specs.Tables.{Tables}
use Rattle.sw_lower_formed_facts.specs.Forms.{VarsHold}
use Rattle.sw_typing_facts.proofs.Lists.Joined.{all_left, all_right}
use Rattle.sw_typing_facts.proofs.Programs.DeclStands.{none_left, none_right}
use Rattle.sw_typing_facts.proofs.Said.Rows.{rows_left, rows_right}
use Rattle.sw_lower_formed_facts.proofs.Statements.Sequences.{arms_vars}
use Rattle.sw_typing_facts.specs.EnumWords.{in_arms, in_block, in_expr, in_otherwise, in_stmt}
use Rattle.sw_lower_total_facts.specs.Proceeding.{BodyIsNumbered}
use Rattle.sw_lower_total_facts.specs.Trees.{noted_in}
use Rattle.sw_lower_total_facts.proofs.Binding.Expressions.{block_binds_nothing, expr_binds_nothing}
use Rattle.sw_lower_total_facts.proofs.Induction.Claims.{ArmsClaim, BlockClaim, ExprClaim, Numbered}
use Rattle.sw_lower_total_facts.proofs.Induction.Claims.{OtherwiseClaim, StmtClaim}
use Rattle.sw_lower_total_facts.proofs.Induction.Forms.{stmt_by, tasks_in}
use Rattle.sw_lower_total_facts.proofs.Standing.NoteForms as noted
use Rattle.sw_lower_total_facts.proofs.Standing.NoteForms.{expr_notes, if_arms_notes, otherwise_notes}
use Rattle.sw_lower_total_facts.proofs.Standing.Trees as standing
use Rattle.sw_lower_total_facts.proofs.Standing.Trees.{StandsBlock, StandsStmt}
use Rattle.sw_lower_total_facts.proofs.Statements.Branches.{ArmsProceed, OtherwiseProceeds, if_proceeds}
use Rattle.sw_lower_total_facts.proofs.Statements.Branches.{more_arms_proceed, no_arms_proceed}
use Rattle.sw_lower_total_facts.proofs.Statements.Branches.{no_otherwise_proceeds, some_block_proceeds}
use Rattle.sw_lower_formed_facts.proofs.Statements.Sequences.{otherwise_vars}

module _ (tables : Tables) (number : Numbers) (all : List Note) where
  pub if_case : (inside : Inside) (state : State) (arms : List IfArm) (other : Option Block)
      (one last : Left) (of_arms : is.LeavesArms tables.world inside state arms one)
      (of_other : is.LeavesOtherwise tables.world false inside one.state other last)
      → ArmsClaim tables number all of_arms → OtherwiseClaim tables number all of_other
      → StmtClaim tables number all (is.if_of inside state arms other one last of_arms of_other)
  unfolding stmt_code in_stmt
  if_case inside state arms other one last of_arms of_other arms_proceed other_proceeds unmeant none
      init vars rows numbered context listed same stands =
      let no_tasks = tasks_in _ _ (eq.fold_stmt-If unwritten_steps arms other) none in
      let arms_words = in_arms tables.world inside state arms one of_arms in
      let vars_same = arms_vars tables.world inside state arms one of_arms in
      stmt_by tables number context listed inside state _ _ _ _ _
      (noted.notes-If tables.world tables.answers context listed arms other)
      (eq.fold_stmt-If (code_steps tables inside.owner) arms other) numbered
      (λ form. if_proceeds tables number context listed inside state _ _
      (map (fold_if_arm (code_steps tables inside.owner)) arms)
      (option_map (fold_block (code_steps tables inside.owner)) other) _
      (otherwise_vars tables.world false inside one.state other last of_other ∙ vars_same)
      (arms_proceed (all_left (λ at. tables.answers.meaning_at at ≡ None) arms_words _ unmeant)
      (none_left _ _ no_tasks) init vars (rows_left tables.answers one.rows last.rows rows)
      (all_left (BodyIsNumbered number) (flat_map (λ (arm : IfCode). arm.inside)
      (map (fold_if_arm (code_steps tables inside.owner)) arms)) _ form) context listed same
      (standing.if_arms_stand tables all context listed state.vars arms other stands))
      (subst (λ (these : List Var). OtherwiseProceeds tables number context listed inside these
      (otherwise_notes tables.world tables.answers other context listed)
      (option_map (fold_block (code_steps tables inside.owner)) other)) vars_same
      (other_proceeds (all_right (λ at. tables.answers.meaning_at at ≡ None) arms_words _ unmeant)
      (none_right _ _ no_tasks) init (subst (VarsHold tables.answers) (sym vars_same) vars)
      (rows_right tables.answers one.rows last.rows rows)
      (all_right (BodyIsNumbered number) (flat_map (λ (arm : IfCode). arm.inside)
      (map (fold_if_arm (code_steps tables inside.owner)) arms)) _ form) context listed same
      (λ body has. subst (λ these. StandsBlock tables all context listed these body)
      (sym vars_same)
      (standing.if_otherwise_stands tables all context listed state.vars arms body
      (subst (λ found. StandsStmt tables all context listed state.vars (stmts.If arms found)) has
      stands))))))

  -- the arms of an `if`
  pub no_arms_case : (inside : Inside) (state : State)
      → ArmsClaim tables number all (is.no_arm inside state)
  no_arms_case inside state unmeant none init vars rows numbered context listed same stand =
      no_arms_proceed tables number context listed inside state.vars

  pub more_arms_case : (inside : Inside) (state : State) (at : ℕ) (cond : Expr) (body : Block)
      (more : List IfArm) (judged : Judged) (one last : Left)
      (of_cond : is.Judges tables.world (setting_of inside state) false cond judged)
      (of_body : is.LeavesBlock tables.world (in_branch inside) state body one)
      (rest : is.LeavesArms tables.world inside (arm_left state judged one).state more last)
      → ExprClaim tables number all of_cond → BlockClaim tables number all of_body
      → ArmsClaim tables number all rest
      → ArmsClaim tables number all
      (is.one_arm inside state at cond body more judged one last of_cond of_body rest)
  unfolding expr_code block_code expr_unwritten block_unwritten in_arms
  more_arms_case inside state at cond body more judged one last of_cond of_body rest cond_proceeds
      body_proceeds more_proceed unmeant none init vars rows numbered context listed same stand =
      let head_is = eq.fold_if_arm-roll (code_steps tables inside.owner) at cond body in
      let now = subst (λ (arm : IfCode). Numbered number (arm.inside
      ++ flat_map (λ (other : IfCode). other.inside)
      (map (fold_if_arm (code_steps tables inside.owner)) more))) head_is numbered in
      let both = (expr_code tables inside.owner cond).inside
      ++ (block_code tables inside.owner body).inside in
      let own = all_left (BodyIsNumbered number) both _ now in
      let of_arm = rows_left tables.answers (arm_left state judged one).rows last.rows rows in
      let cond_words = in_expr tables.world (setting_of inside state) false cond judged of_cond in
      let body_words = in_block tables.world (in_branch inside) state body one of_body in
      let arm_unmeant = all_left (λ at. tables.answers.meaning_at at ≡ None)
      (cond_words ++ body_words) _ unmeant in
      let arm_none = sym (eq.fold_if_arm-roll unwritten_steps at cond body) ∙ none_left _ _ none in
      subst (λ (these : List Note). ArmsProceed tables number context listed inside state.vars
      (these ++ if_arms_notes tables.world tables.answers more context listed)
      (map (fold_if_arm (code_steps tables inside.owner))
      (roll-IfArm (record { at = at; cond = cond; body = body }) ∷ more)))
      (sym (noted.notes-if_arm tables.world tables.answers context listed at cond body))
      (subst (λ (arm : IfCode). ArmsProceed tables number context listed inside state.vars
      ((expr_notes tables.world tables.answers context listed cond
      ++ noted_in tables number all body context listed)
      ++ if_arms_notes tables.world tables.answers more context listed)
      (arm ∷ map (fold_if_arm (code_steps tables inside.owner)) more)) (sym head_is)
      (more_arms_proceed tables number context listed inside state _ _ _
      (expr_code tables inside.owner cond) (block_code tables inside.owner body)
      (map (fold_if_arm (code_steps tables inside.owner)) more)
      (cond_proceeds
      (all_left (λ at. tables.answers.meaning_at at ≡ None) cond_words _ arm_unmeant)
      (none_left _ _ arm_none) vars
      (rows_left tables.answers judged.rows _
      (rows_left tables.answers (condition_rows judged) one.rows of_arm))
      (all_left (BodyIsNumbered number) (expr_code tables inside.owner cond).inside _ own) context
      listed same
      (standing.if_arm_cond_stands tables all context listed state.vars at cond body more stand))
      (expr_binds_nothing tables inside.owner cond)
      (body_proceeds
      (all_right (λ at. tables.answers.meaning_at at ≡ None) cond_words _ arm_unmeant)
      (none_right _ _ arm_none) init vars
      (rows_right tables.answers (condition_rows judged) one.rows of_arm)
      (all_right (BodyIsNumbered number) (expr_code tables inside.owner cond).inside _ own) context
      listed same
      (standing.if_arm_body_stands tables all context listed state.vars at cond body more stand))
      (block_binds_nothing tables inside.owner body)
      (more_proceed
      (all_right (λ at. tables.answers.meaning_at at ≡ None) (cond_words ++ body_words) _ unmeant)
      (none_right (fold_if_arm unwritten_steps (roll-IfArm (record {
        at = at;
        cond = cond;
        body = body;
      }))) _ none) init vars
      (rows_right tables.answers (arm_left state judged one).rows last.rows rows)
      (all_right (BodyIsNumbered number) both _ now) context listed same
      (standing.if_arms_more_stand tables all context listed state.vars _ more stand))))

  -- an `else` or a `default`
  pub no_else_case : (inside : Inside) (state : State)
      → OtherwiseClaim tables number all (is.absent inside state)
  no_else_case inside state unmeant none init vars rows numbered context listed same stands =
      no_otherwise_proceeds tables number context listed inside state.vars

  pub no_default_case : (inside : Inside) (state : State)
      → OtherwiseClaim tables number all (is.absent_default inside state)
  no_default_case inside state unmeant none init vars rows numbered context listed same stands =
      no_otherwise_proceeds tables number context listed inside state.vars

  pub some_block_case : (ends : Bool) (inside : Inside) (state : State) (body : Block) (one : Left)
      (of_body : is.LeavesBlock tables.world (in_branch inside) state body one)
      → BlockClaim tables number all of_body
      → OtherwiseClaim tables number all (is.present ends inside state body one of_body)
  unfolding block_code block_unwritten in_otherwise
  some_block_case ends inside state body one of_body body_proceeds unmeant none init vars rows
      numbered context listed same stands =
      some_block_proceeds tables number context listed inside state _
      (block_code tables inside.owner body)
      (body_proceeds unmeant none init vars rows numbered context listed same (stands body refl))
      (block_binds_nothing tables inside.owner body)
