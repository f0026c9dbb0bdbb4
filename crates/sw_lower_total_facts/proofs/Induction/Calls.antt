-- A call, a call of a method, and their arguments.
use Rattle.std.proofs.Common.{◌≡◌, Bool, false, List, [], ◌∷◌, ◌++◌, Option, None, sym, ◌∙◌, subst}
use Rattle.std.proofs.Common.{map}
use Rattle.sw_tree.specs.Folds.{fold_arg}
use Rattle.sw_tree.specs.declared.expr.Arg.{Arg, roll-Arg}
use Rattle.sw_tree.specs.declared.expr.Expr.{Expr}
use Rattle.sw_tree.specs.declared.name.Name.{Name}
use Rattle.sw_tree.proofs.FoldEquations as eq
use Rattle.sw_tree_facts.specs.Unwritten.{expr_unwritten, unwritten_steps}
use Rattle.sw_typing_rules.specs.Calls.{Slot, callee_meaning, slots_of}
use Rattle.sw_typing_rules.specs.Expressions.{Judged, Passed, base_rows, call_callee, first_marked}
use Rattle.sw_typing_rules.specs.Expressions.{later, method_callee}
use Rattle.sw_typing_rules.specs.Judges as is
use Rattle.sw_typing_rules.specs.Verdicts.{meaning_rows}
use Rattle.sw_typing_rules.specs.Words.{Setting}
use Rattle.sw_isolation_rules.specs.Noting.{see}
use Rattle.sw_isolation_rules.specs.declared.note.Note.{Note}
use Rattle.sw_lower_plans.specs.Plan.{Numbers}
use Rattle.sw_lower_rules.specs.Carriers.{ArgCode}
use Rattle.sw_lower_rules.specs.Expressions.{args_inside}
use Rattle.sw_lower_rules.specs.Statements.{code_steps, expr_code}
use Rattle.sw_lower_rules.specs.Tables.{Tables}
use Rattle.sw_typing_facts.proofs.Lists.Joined.{all_left, all_right}
use Rattle.sw_typing_facts.proofs.Programs.DeclStands.{none_left, none_right}
use Rattle.sw_typing_facts.proofs.Programs.WordKinds.{WordKinds}
use Rattle.sw_typing_facts.proofs.Said.Rows.{rows_left, rows_right}
use Rattle.sw_typing_facts.specs.EnumWords.{in_args, in_base, in_expr}
use Rattle.sw_lower_total_facts.specs.Forms.{ArgsProceed}
use Rattle.sw_lower_total_facts.specs.Known.{TablesAgree}
use Rattle.sw_lower_total_facts.specs.Proceeding.{BodyIsNumbered}
use Rattle.sw_lower_total_facts.proofs.Expressions.Calls.{call_proceeds}
use Rattle.sw_lower_total_facts.proofs.Expressions.Methods.{method_proceeds}
use Rattle.sw_lower_total_facts.proofs.Expressions.Senses.{ShapesStand}
use Rattle.sw_lower_total_facts.proofs.Expressions.Simple.{arg_proceeds, no_args_proceed}
use Rattle.sw_lower_total_facts.proofs.Induction.Bases.{method_base, value_unmeant}
use Rattle.sw_lower_total_facts.proofs.Induction.Claims.{ArgsClaim, ExprClaim, Numbered}
use Rattle.sw_lower_total_facts.proofs.Induction.Forms.{expr_by, tasks_in}
use Rattle.sw_lower_total_facts.proofs.Standing.NoteForms as noted
use Rattle.sw_lower_total_facts.proofs.Standing.NoteForms.{args_notes, expr_notes}
use Rattle.sw_lower_total_facts.proofs.Standing.Own.{call_kinds, method_kinds}
use Rattle.sw_lower_total_facts.proofs.Standing.Trees as standing
use Rattle.sw_lower_total_facts.proofs.Trees.Enums.{enum_alone}
use Rattle.sw_lower_total_facts.proofs.Trees.Keys.{seen_key}
use Rattle.sw_lower_formed_facts.proofs.Expressions.Typed.{has_type}
use Rattle.sw_lower_total_facts.proofs.Trees.Types.{node_typed}

module _ (tables : Tables) (number : Numbers) (all : List Note) where
  module _ (known : TablesAgree tables number all) (stand : ShapesStand tables.world) where
    pub call_case : (kinds : WordKinds tables.world) (setting : Setting) (expected : Bool)
        (name : Name) (args : List Arg) (passed : Passed)
        (of_args : is.Passes tables.world setting (slots_of (call_callee tables.world setting name))
        args passed)
        → ArgsClaim tables number all of_args
        → ExprClaim tables number all (is.call setting expected name args passed of_args)
    unfolding expr_code expr_unwritten in_expr
    call_case kinds setting expected name args passed of_args args_proceed unmeant none vars rows
        numbered context listed same stands =
        expr_by tables number setting.owner context listed setting.vars _ _ _ _
        (noted.notes-Call tables.world tables.answers context listed name args)
        (eq.fold_expr-Call (code_steps tables setting.owner) name args) numbered
        (λ form. call_proceeds tables number all known stand kinds context listed setting same name
        (map (fold_arg (code_steps tables setting.owner)) args) passed
        (args_notes tables.world tables.answers args context listed)
        (has_type tables setting expected _ _ (is.call _ _ name args passed of_args) vars rows) rows
        (call_kinds tables.world tables.answers context listed all _ _ name args stands)
        (args_proceed unmeant
        (tasks_in _ _ (eq.fold_expr-Call unwritten_steps name args) none) vars
        (rows_left tables.answers passed.rows _ (rows_left tables.answers _ _ rows)) form context
        listed same
        (standing.call_args_stand tables all context listed setting.vars name args stands)))

    pub method_case : (setting : Setting) (expected : Bool) (base : Expr) (name : Name)
        (args : List Arg) (one : Judged) (passed : Passed)
        (of_base : is.Judges tables.world setting false base one)
        (of_args : is.Passes tables.world setting (slots_of (method_callee tables.world one name))
        args passed)
        → ExprClaim tables number all of_base → ArgsClaim tables number all of_args
        → ExprClaim tables number all
        (is.method setting expected base name args one passed of_base of_args)
    unfolding expr_code expr_unwritten in_expr
    method_case setting expected base name args one passed of_base of_args base_proceeds
        args_proceed unmeant none vars rows numbered context listed same stands =
        let said = passed.rows ++ meaning_rows name.at
        (callee_meaning (method_callee tables.world one name)) in
        let hold = rows_left tables.answers (base_rows one ++ said) _ rows in
        let no_tasks = tasks_in _ _ (eq.fold_expr-Method unwritten_steps base name args) none in
        let inner_words = in_expr tables.world setting false base one of_base in
        let base_words = in_base one inner_words in
        let base_unmeant = all_left (λ at. tables.answers.meaning_at at ≡ None) base_words _
        unmeant in
        expr_by tables number setting.owner context listed setting.vars _ _ _ _
        (noted.notes-Method tables.world tables.answers context listed base name args)
        (eq.fold_expr-Method (code_steps tables setting.owner) base name args) numbered
        (λ form. method_proceeds tables number all known stand context listed setting.vars
        setting.owner (see tables.world tables.answers base) one
        (expr_code tables setting.owner base) name
        (record {
          proceeds = λ no. base_proceeds (value_unmeant tables one inner_words base_unmeant no)
              (none_left _ _ no_tasks) vars (method_base tables one said no hold)
              (all_left (BodyIsNumbered number) (expr_code tables setting.owner base).inside _ form)
              context listed same
              (standing.method_base_stands tables all context listed setting.vars base name args
              stands);
          typed = λ no ty has. node_typed tables setting false base one of_base
              (method_base tables one said no hold) ty has;
          alone = enum_alone tables setting false base one of_base;
        })
        (seen_key tables setting.owner base)
        (map (fold_arg (code_steps tables setting.owner)) args) passed
        (args_notes tables.world tables.answers args context listed)
        (has_type tables setting expected _ _ (is.method _ _ base name args one passed of_base
        of_args) vars rows) rows
        (method_kinds tables.world tables.answers context listed all _ _ base name args stands)
        (args_proceed (all_right (λ at. tables.answers.meaning_at at ≡ None) base_words _ unmeant)
        (none_right _ _ no_tasks) vars
        (rows_left tables.answers passed.rows _ (rows_right tables.answers (base_rows one) said
        hold)) (all_right (BodyIsNumbered number)
        (expr_code tables setting.owner base).inside _ form)
        context listed same
        (standing.method_args_stand tables all context listed setting.vars base name args stands)))

  -- arguments
  pub no_args_case : (setting : Setting) (slots : List Slot)
      → ArgsClaim tables number all (is.passes_none setting slots)
  no_args_case setting slots unmeant none vars rows numbered context listed same stand =
      no_args_proceed tables number context listed setting.vars []

  pub more_args_case : (setting : Setting) (slots : List Slot) (label : Option Name) (value : Expr)
      (more : List Arg) (one : Judged) (rest : Passed)
      (of_value : is.Judges tables.world setting (first_marked slots) value one)
      (of_rest : is.Passes tables.world setting (later slots) more rest)
      → ExprClaim tables number all of_value → ArgsClaim tables number all of_rest
      → ArgsClaim tables number all
      (is.passes_one setting slots label value more one rest of_value of_rest)
  unfolding expr_code expr_unwritten in_args
  more_args_case setting slots label value more one rest of_value of_rest value_proceeds
      rest_proceed unmeant none vars rows numbered context listed same stand =
      let arg = roll-Arg (record { label = label; value = value }) in
      let head_is = eq.fold_arg-roll (code_steps tables setting.owner) label value in
      let now = subst (λ (arg : ArgCode). Numbered number (arg.inside
      ++ args_inside (map (fold_arg (code_steps tables setting.owner)) more))) head_is numbered in
      let value_words = in_expr tables.world setting _ value one of_value in
      subst (λ these. ArgsProceed tables number context listed setting.vars
      (these ++ args_notes tables.world tables.answers more context listed)
      (map (fold_arg (code_steps tables setting.owner)) (arg ∷ more)))
      (sym (noted.notes-arg tables.world tables.answers context listed label value))
      (subst (λ head. ArgsProceed tables number context listed setting.vars
      (expr_notes tables.world tables.answers context listed value
      ++ args_notes tables.world tables.answers more context listed)
      (head ∷ map (fold_arg (code_steps tables setting.owner)) more)) (sym head_is)
      (arg_proceeds tables number context listed setting.vars _ _
      (expr_code tables setting.owner value)
      (map (fold_arg (code_steps tables setting.owner)) more)
      (value_proceeds
      (all_left (λ at. tables.answers.meaning_at at ≡ None) value_words _ unmeant)
      (sym (eq.fold_arg-roll unwritten_steps label value) ∙ none_left _ _ none) vars
      (rows_left tables.answers one.rows rest.rows rows)
      (all_left (BodyIsNumbered number) (expr_code tables setting.owner value).inside _ now) context
      listed same
      (standing.args_first_stands tables all context listed setting.vars label value more stand))
      (rest_proceed
      (all_right (λ at. tables.answers.meaning_at at ≡ None) value_words _ unmeant)
      (none_right (fold_arg unwritten_steps arg) _ none) vars
      (rows_right tables.answers one.rows rest.rows rows)
      (all_right (BodyIsNumbered number) (expr_code tables setting.owner value).inside _ now)
      context
      listed same
      (standing.args_more_stand tables all context listed setting.vars arg more stand))))
