-- Chains of operators, prefix operators and `await`.
use Rattle.std.proofs.Common.{◌≡◌, ℕ, Bool, false, List, [], ◌∷◌, ◌++◌, None, sym, ◌∙◌, subst, map}
use Rattle.std.proofs.Common.{flat_map}
use Rattle.sw_tree.specs.Folds.{fold_link}
use Rattle.sw_tree.specs.Keys.{joined}
use Rattle.sw_tree.specs.declared.expr.Expr.{Expr}
use Rattle.sw_tree.specs.declared.expr.Link.{Link, roll-Link}
use Rattle.sw_tree.specs.declared.operator.InfixOp.{InfixOp}
use Rattle.sw_tree.specs.declared.operator.PrefixOp.{PrefixOp}
use Rattle.sw_tree.proofs.FoldEquations as eq
use Rattle.sw_tree_facts.specs.Unwritten.{expr_unwritten, unwritten_steps}
use Rattle.sw_typing_rules.specs.Expressions.{Judged, infix_judged}
use Rattle.sw_typing_rules.specs.Judges as is
use Rattle.sw_typing_rules.specs.Words.{Setting}
use Rattle.sw_isolation_rules.specs.Noting.{in_await}
use Rattle.sw_isolation_rules.specs.declared.note.Note.{Note}
use Rattle.sw_lower_plans.specs.Plan.{Numbers}
use Rattle.sw_lower_rules.specs.Carriers.{LinkCode}
use Rattle.sw_lower_rules.specs.Statements.{code_steps, expr_code}
use Rattle.sw_lower_rules.specs.Tables.{Tables}
use Rattle.sw_typing_facts.proofs.Lists.Joined.{all_left, all_right}
use Rattle.sw_typing_facts.proofs.Programs.DeclStands.{none_left, none_right}
use Rattle.sw_typing_facts.proofs.Said.Rows.{rows_left, rows_right}
use Rattle.sw_typing_facts.specs.EnumWords.{in_expr, in_links}
use Rattle.sw_lower_total_facts.specs.Forms.{LinksProceed}
use Rattle.sw_lower_total_facts.specs.Proceeding.{BodyIsNumbered}
use Rattle.sw_lower_total_facts.proofs.Expressions.Chains.{chain_proceeds, link_proceeds}
use Rattle.sw_lower_total_facts.proofs.Expressions.Chains.{no_links_proceed}
use Rattle.sw_lower_total_facts.proofs.Expressions.Simple.{await_proceeds, prefix_proceeds}
use Rattle.sw_lower_total_facts.proofs.Induction.Claims.{ExprClaim, LinksClaim, Numbered}
use Rattle.sw_lower_total_facts.proofs.Induction.Forms.{expr_by, tasks_in}
use Rattle.sw_lower_total_facts.proofs.Standing.NoteForms as noted
use Rattle.sw_lower_total_facts.proofs.Standing.NoteForms.{expr_notes, links_notes}
use Rattle.sw_lower_total_facts.proofs.Standing.Trees as standing
use Rattle.sw_lower_formed_facts.proofs.Expressions.Typed.{rows_before}

module _ (tables : Tables) (number : Numbers) (all : List Note) where
  pub chain_case : (setting : Setting) (expected : Bool) (first : Expr) (rest : List Link)
      (left judged : Judged) (of_first : is.Judges tables.world setting false first left)
      (of_rest : is.Links tables.world setting left rest judged)
      → ExprClaim tables number all of_first → LinksClaim tables number all of_rest
      → ExprClaim tables number all
      (is.chain setting expected first rest left judged of_first of_rest)
  unfolding expr_code expr_unwritten in_expr
  chain_case setting expected first rest left judged of_first of_rest first_proceeds rest_proceed
      unmeant none vars rows numbered context listed same stands =
      let no_tasks = tasks_in _ _ (eq.fold_expr-Chain unwritten_steps first rest) none in
      let first_words = in_expr tables.world setting false first left of_first in
      let in_parts = none_left (expr_unwritten first ++ joined (map (fold_link unwritten_steps)
      rest)) _ no_tasks in
      expr_by tables number setting.owner context listed setting.vars _ _ _ _
      (noted.notes-Chain tables.world tables.answers context listed first rest)
      (eq.fold_expr-Chain (code_steps tables setting.owner) first rest) numbered
      (λ form. chain_proceeds tables number context listed setting.vars _
      (links_notes tables.world tables.answers rest context listed) _
      (expr_code tables setting.owner first)
      (map (fold_link (code_steps tables setting.owner)) rest)
      (first_proceeds (all_left (λ at. tables.answers.meaning_at at ≡ None) first_words _ unmeant)
      (none_left _ _ in_parts) vars (rows_before tables setting left judged rest of_rest rows)
      (all_left (BodyIsNumbered number) (expr_code tables setting.owner first).inside _ form)
      context
      listed same
      (standing.chain_first_stands tables all context listed setting.vars first rest stands))
      (rest_proceed (all_right (λ at. tables.answers.meaning_at at ≡ None) first_words _ unmeant)
      (none_right (expr_unwritten first) _ in_parts) vars rows
      (all_right (BodyIsNumbered number) (expr_code tables setting.owner first).inside _ form)
      context
      listed same
      (standing.chain_rest_stand tables all context listed setting.vars first rest stands)))

  -- the operators of a chain
  pub no_links_case : (setting : Setting) (left : Judged)
      → LinksClaim tables number all (is.no_link setting left)
  no_links_case setting left unmeant none vars rows numbered context listed same stand =
      no_links_proceed tables number context listed setting.vars []

  pub more_links_case : (setting : Setting) (left : Judged) (op : InfixOp) (at : ℕ)
      (operand : Expr) (more : List Link) (right judged : Judged)
      (of_right : is.Judges tables.world setting false operand right)
      (rest : is.Links tables.world setting (infix_judged op at left right) more judged)
      → ExprClaim tables number all of_right → LinksClaim tables number all rest
      → LinksClaim tables number all
      (is.one_link setting left op at operand more right judged of_right rest)
  unfolding expr_code expr_unwritten in_links
  more_links_case setting left op at operand more right judged of_right rest right_proceeds
      rest_proceed unmeant none vars rows numbered context listed same stand =
      let link = roll-Link (record { op = op; at = at; operand = operand }) in
      let head_is = eq.fold_link-roll (code_steps tables setting.owner) op at operand in
      let now = subst (λ (link : LinkCode). Numbered number (link.inside
      ++ flat_map (λ (one : LinkCode). one.inside)
      (map (fold_link (code_steps tables setting.owner)) more))) head_is numbered in
      let hold = rows_before tables setting (infix_judged op at left right) judged more rest rows
      in
      let right_words = in_expr tables.world setting false operand right of_right in
      subst (λ these. LinksProceed tables number context listed setting.vars
      (these ++ links_notes tables.world tables.answers more context listed)
      (map (fold_link (code_steps tables setting.owner)) (link ∷ more)))
      (sym (noted.notes-link tables.world tables.answers context listed op at operand))
      (subst (λ head. LinksProceed tables number context listed setting.vars
      (expr_notes tables.world tables.answers context listed operand
      ++ links_notes tables.world tables.answers more context listed)
      (head ∷ map (fold_link (code_steps tables setting.owner)) more)) (sym head_is)
      (link_proceeds tables number context listed setting.vars _ _ op at
      (expr_code tables setting.owner operand)
      (map (fold_link (code_steps tables setting.owner)) more)
      (right_proceeds (all_left (λ at. tables.answers.meaning_at at ≡ None) right_words _ unmeant)
      (sym (eq.fold_link-roll unwritten_steps op at operand) ∙ none_left _ _ none) vars
      (rows_right tables.answers left.rows right.rows
      (rows_left tables.answers (left.rows ++ right.rows) _ hold))
      (all_left (BodyIsNumbered number) (expr_code tables setting.owner operand).inside _ now)
      context
      listed same
      (standing.links_first_stands tables all context listed setting.vars op at operand more
      stand))
      (rest_proceed (all_right (λ at. tables.answers.meaning_at at ≡ None) right_words _ unmeant)
      (none_right (fold_link unwritten_steps link) _ none) vars rows
      (all_right (BodyIsNumbered number) (expr_code tables setting.owner operand).inside _ now)
      context listed same
      (standing.links_more_stand tables all context listed setting.vars link more stand))))

  -- operators of one operand
  pub prefix_case : (setting : Setting) (expected : Bool) (op : PrefixOp) (at : ℕ) (inner : Expr)
      (one : Judged) (of_inner : is.Judges tables.world setting false inner one)
      → ExprClaim tables number all of_inner
      → ExprClaim tables number all (is.prefix setting expected op at inner one of_inner)
  unfolding expr_code expr_unwritten in_expr
  prefix_case setting expected op at inner one of_inner inner_proceeds unmeant none vars rows
      numbered context listed same stands =
      expr_by tables number setting.owner context listed setting.vars _ _ _ _
      (noted.notes-Prefix tables.world tables.answers context listed op at inner)
      (eq.fold_expr-Prefix (code_steps tables setting.owner) op at inner) numbered
      (λ form. prefix_proceeds tables number context listed setting.vars _ op at
      (expr_code tables setting.owner inner)
      (inner_proceeds unmeant
      (tasks_in _ _ (eq.fold_expr-Prefix unwritten_steps op at inner) none) vars
      (rows_left tables.answers one.rows _ rows) form context listed same
      (standing.prefix_inner_stands tables all context listed setting.vars op at inner stands)))

  pub await_case : (setting : Setting) (expected : Bool) (at : ℕ) (inner : Expr) (one : Judged)
      (of_inner : is.Judges tables.world setting false inner one)
      → ExprClaim tables number all of_inner
      → ExprClaim tables number all (is.await setting expected at inner one of_inner)
  unfolding expr_code expr_unwritten in_expr
  await_case setting expected at inner one of_inner inner_proceeds unmeant none vars rows numbered
      context listed same stands =
      expr_by tables number setting.owner context listed setting.vars _ _ _ _
      (noted.notes-Await tables.world tables.answers context listed at inner)
      (eq.fold_expr-Await (code_steps tables setting.owner) at inner) numbered
      (λ form. await_proceeds tables number context listed setting.vars setting.owner _ at
      (expr_code tables setting.owner inner)
      (inner_proceeds unmeant
      (tasks_in _ _ (eq.fold_expr-Await unwritten_steps at inner) none) vars
      (rows_left tables.answers one.rows _ rows) form (in_await context) listed same
      (standing.await_inner_stands tables all context listed setting.vars at inner stands)))
