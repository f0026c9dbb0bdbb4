-- The type of a well-typed expression is that of its node.
use Rattle.std.proofs.Common.{◌≡◌, ℕ, Bool, false, List, ◌++◌, map, Option, Some, None}
use Rattle.std.proofs.Common.{ap, ◌∙◌, ◌||◌}
use Rattle.std.proofs.lemmas.Option.{none-some}
use Rattle.sw_tree.specs.Folds.{Steps, fold_link}
use Rattle.sw_tree.specs.NodeKey.{last_or}
use Rattle.sw_tree.specs.declared.expr.Expr.{Expr}
use Rattle.sw_tree.specs.declared.expr.Link.{Link}
use Rattle.sw_tree.specs.declared.name.Name.{Name}
use Rattle.sw_tree.proofs.FoldEquations as eq
use Rattle.sw_types.specs.declared.ty.Ty.{Ty}
use Rattle.sw_types.specs.declared.ty.Ty.TheVariants as types
use Rattle.sw_typing_rules.specs.Calls.{call_types, case_in, case_meaning, enum_types}
use Rattle.sw_typing_rules.specs.Expressions.{Judged, call_callee, fun_types, infix_judged}
use Rattle.sw_typing_rules.specs.Expressions.{member_by, method_callee, task_types, value_member}
use Rattle.sw_typing_rules.specs.Judges as is
use Rattle.sw_typing_rules.specs.Operators.{infix_types, prefix_types}
use Rattle.sw_typing_rules.specs.Verdicts.{meaning_rows, rows_of, type_in}
use Rattle.sw_typing_rules.specs.Words.{Setting, found_in, found_meaning, found_types, me_types}
use Rattle.sw_typing_rules.specs.Words.{sense, var_types, word_meaning, word_types}
use Rattle.sw_typing_rules.specs.declared.row.Row.{Row}
use Rattle.sw_typing_rules.specs.declared.verdict.Verdict.{Verdict}
use Rattle.sw_typing_rules.specs.declared.verdict.Verdict.TheVariants.{Fails, Has, Held}
use Rattle.sw_lower_rules.specs.Carriers.{ExprCode, LinkCode}
use Rattle.sw_lower_rules.specs.Statements.{code_steps, expr_code}
use Rattle.sw_lower_rules.specs.Tables.{Tables}
use Rattle.sw_typing_facts.specs.Rows.{RowsHold}
use Rattle.sw_typing_facts.proofs.Said.Rows.{rows_right}

module _ (tables : Tables) where
  -- what a verdict says of a node
  says : (at : ℕ) (verdict : Verdict) (ty : Ty) → type_in verdict ≡ Some ty
      → RowsHold tables.answers (rows_of at verdict) → tables.answers.type_at at ≡ Some ty
  says at (Has one) ty is rows = rows.0 ∙ is
  says at (Fails code) ty is rows = absurd rows.0
  says at Held ty is rows = absurd (none-some ty is)

  -- after other rows
  after : (rows : List Row) (at : ℕ) (verdict : Verdict) (ty : Ty) → type_in verdict ≡ Some ty
      → RowsHold tables.answers (rows ++ rows_of at verdict)
      → tables.answers.type_at at ≡ Some ty
  after rows at verdict ty is hold =
      says at verdict ty is (rows_right tables.answers rows (rows_of at verdict) hold)

  module _ (setting : Setting) where
    abbrev steps : Steps
    steps = code_steps tables setting.owner

    -- the key of the code is this, and so it has the type
    by_key : (expr : Expr) (form : ExprCode) (ty : Ty) → expr_code tables setting.owner expr ≡ form
        → tables.answers.type_at form.key ≡ Some ty
        → tables.answers.type_at (expr_code tables setting.owner expr).key ≡ Some ty
    by_key expr form ty is known =
        ap (λ (code : ExprCode). tables.answers.type_at code.key) is ∙ known

    member_type : (base : Judged) (name : Name) (named : Option ℕ) (ty : Ty)
        → (member_by tables.world base named name).ty ≡ Some ty
        → RowsHold tables.answers (member_by tables.world base named name).rows
        → tables.answers.type_at name.at ≡ Some ty
    member_type base name None ty is rows = value base.ty is rows where
      value : (found : Option Ty) → (value_member tables.world base found name).ty ≡ Some ty
          → RowsHold tables.answers (value_member tables.world base found name).rows
          → tables.answers.type_at name.at ≡ Some ty
      value None is rows = absurd (none-some ty is)
      value (Some one) is rows =
          let found = found_in tables.world one name.id in
          after (meaning_rows name.at (found_meaning found)) name.at
          (found_types tables.world found) ty is
          (rows_right tables.answers base.rows _ rows)
    member_type base name (Some shape) ty is rows =
        let number = case_in tables.world shape name.id in
        after (meaning_rows name.at (case_meaning shape number)) name.at
        (enum_types tables.world shape number) ty is rows

    -- the operators of a chain
    links_type : (key : ℕ) (left judged : Judged) (links : List Link)
        → is.Links tables.world setting left links judged → (ty : Ty) → judged.ty ≡ Some ty
        → RowsHold tables.answers judged.rows
        → (left.ty ≡ Some ty → RowsHold tables.answers left.rows
        → tables.answers.type_at key ≡ Some ty)
        → tables.answers.type_at
        (last_or key (map (λ (link : LinkCode). link.at) (map (fold_link steps) links))) ≡ Some ty
    links_type key left judged links (is.no_link _ _) ty has rows before = before has rows
    links_type key left judged links (is.one_link _ _ op at operand more right _ of_right rest) ty
        has rows before =
        ap (λ k. tables.answers.type_at
        (last_or k (map (λ (link : LinkCode). link.at) (map (fold_link steps) more))))
        (ap (λ (link : LinkCode). link.at) (eq.fold_link-roll steps op at operand))
        ∙ links_type at (infix_judged op at left right) judged more rest ty has rows
        (λ is hold. after (left.rows ++ right.rows) at (infix_types op left.ty right.ty) ty is hold)

    -- An expression that has a type has it by its node.
    pub node_typed : (expected : Bool) (expr : Expr) (judged : Judged)
        → is.Judges tables.world setting expected expr judged → RowsHold tables.answers judged.rows
        → (ty : Ty) → judged.ty ≡ Some ty
        → tables.answers.type_at (expr_code tables setting.owner expr).key ≡ Some ty
    unfolding expr_code
    node_typed expected expr judged (is.int _ _ at value) rows ty has =
        by_key expr _ ty (eq.fold_expr-Int steps at value)
        (says at (Has types.Int) ty has rows)
    node_typed expected expr judged (is.bool _ _ at value) rows ty has =
        by_key expr _ ty (eq.fold_expr-Bool steps at value)
        (says at (Has types.Bool) ty has rows)
    node_typed expected expr judged (is.word _ _ name) rows ty has =
        let meant = sense tables.world setting name.id in
        by_key expr _ ty (eq.fold_expr-Use steps name)
        (after (meaning_rows name.at (word_meaning meant)) name.at (word_types tables.world meant)
        ty has rows)
    node_typed expected expr judged (is.me _ _ at) rows ty has =
        by_key expr _ ty (eq.fold_expr-Me steps at) (says at (me_types setting.owner) ty has rows)
    node_typed expected expr judged (is.member _ _ base name one d) rows ty has =
        by_key expr _ ty (eq.fold_expr-Member steps base name)
        (member_type one name one.enum ty has rows)
    node_typed expected expr judged (is.call _ _ name args passed d) rows ty has =
        by_key expr _ ty (eq.fold_expr-Call steps name args)
        (after _ name.at (call_types (call_callee tables.world setting name) passed.given) ty has
        rows)
    node_typed expected expr judged (is.method _ _ base name args one passed of_base d) rows ty
        has =
        by_key expr _ ty (eq.fold_expr-Method steps base name args)
        (after _ name.at (call_types (method_callee tables.world one name) passed.given) ty has
        rows)
    node_typed expected expr judged (is.chain _ _ first rest left _ of_first d) rows ty has =
        by_key expr _ ty (eq.fold_expr-Chain steps first rest)
        (links_type (expr_code tables setting.owner first).key left judged rest d ty has rows
        (λ is hold. node_typed false first left of_first hold ty is))
    node_typed expected expr judged (is.prefix _ _ op at inner one d) rows ty has =
        by_key expr _ ty (eq.fold_expr-Prefix steps op at inner)
        (after one.rows at (prefix_types op one.ty) ty has rows)
    node_typed expected expr judged (is.await _ _ at inner one d) rows ty has =
        by_key expr _ ty (eq.fold_expr-Await steps at inner)
        (after one.rows at (var_types one.ty) ty has rows)
    node_typed expected expr judged (is.fun _ _ closure closed (is.closes _ at mark captures params
        result body left of_body)) rows ty has =
        by_key expr _ ty (eq.fold_expr-Fun steps closure)
        (ap tables.answers.type_at (ap (λ c. c.at)
        (eq.fold_closure-roll steps at mark captures params result body))
        ∙ after closed.rows closed.at (fun_types (closed.marked || expected) closed.params
        closed.result) ty has rows)
    node_typed expected expr judged (is.spawn _ _ at detached body closed d) rows ty has =
        by_key expr _ ty (eq.fold_expr-Spawn steps at detached body)
        (after closed.rows at (task_types closed.result) ty has rows)
    node_typed expected expr judged (is.yield _ _ at) rows ty has =
        by_key expr _ ty (eq.fold_expr-Yield steps at) (says at (Has types.Unit) ty has rows)
