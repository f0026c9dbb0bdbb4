-- What is noted of an expression and its code say alike whether it is the word `self`.
use Rattle.std.proofs.Common.{◌≡◌, ℕ, Bool, Option, ap, sym, ◌∙◌, refl}
use Rattle.sw_tree.specs.Folds.{Steps}
use Rattle.sw_tree.specs.declared.expr.Expr.{Expr}
use Rattle.sw_tree.proofs.FoldEquations as eq
use Rattle.sw_typing_rules.specs.Expressions.{Judged}
use Rattle.sw_typing_rules.specs.Judges as is
use Rattle.sw_typing_rules.specs.Words.{Setting}
use Rattle.sw_isolation_rules.specs.Noting.{Seen, note_steps, see}
use Rattle.sw_lower_rules.specs.Carriers.{ExprCode}
use Rattle.sw_lower_rules.specs.Statements.{code_steps, expr_code}
use Rattle.sw_lower_rules.specs.Tables.{Tables}

module _ (tables : Tables) (owner : Option ℕ) where
  abbrev notes : Steps
  notes = note_steps tables.world tables.answers

  abbrev codes : Steps
  codes = code_steps tables owner

  alike : (seen form : Seen) (code shape : ExprCode) → seen ≡ form → code ≡ shape
      → form.is_self ≡ shape.is_self → seen.is_self ≡ code.is_self
  alike seen form code shape one other same =
      ap (λ (s : Seen). s.is_self) one ∙ same ∙ sym (ap (λ (c : ExprCode). c.is_self) other)

  pub seen_self : (setting : Setting) (expected : Bool) (expr : Expr) (judged : Judged)
      → is.Judges tables.world setting expected expr judged
      → (see tables.world tables.answers expr).is_self ≡ (expr_code tables owner expr).is_self
  unfolding see expr_code
  seen_self setting expected expr judged (is.int _ _ at value) =
      alike _ _ _ _ (eq.fold_expr-Int notes at value) (eq.fold_expr-Int codes at value) refl
  seen_self setting expected expr judged (is.bool _ _ at value) =
      alike _ _ _ _ (eq.fold_expr-Bool notes at value) (eq.fold_expr-Bool codes at value) refl
  seen_self setting expected expr judged (is.word _ _ name) =
      alike _ _ _ _ (eq.fold_expr-Use notes name) (eq.fold_expr-Use codes name) refl
  seen_self setting expected expr judged (is.me _ _ at) =
      alike _ _ _ _ (eq.fold_expr-Me notes at) (eq.fold_expr-Me codes at) refl
  seen_self setting expected expr judged (is.member _ _ base name one of_base) =
      alike _ _ _ _ (eq.fold_expr-Member notes base name) (eq.fold_expr-Member codes base name)
      refl
  seen_self setting expected expr judged (is.call _ _ name args passed of_args) =
      alike _ _ _ _ (eq.fold_expr-Call notes name args) (eq.fold_expr-Call codes name args) refl
  seen_self setting expected expr judged
      (is.method _ _ base name args one passed of_base of_args) =
      alike _ _ _ _ (eq.fold_expr-Method notes base name args)
      (eq.fold_expr-Method codes base name args) refl
  seen_self setting expected expr judged (is.chain _ _ first rest left _ of_first of_rest) =
      alike _ _ _ _ (eq.fold_expr-Chain notes first rest) (eq.fold_expr-Chain codes first rest)
      refl
  seen_self setting expected expr judged (is.prefix _ _ op at inner one of_inner) =
      alike _ _ _ _ (eq.fold_expr-Prefix notes op at inner)
      (eq.fold_expr-Prefix codes op at inner) refl
  seen_self setting expected expr judged (is.await _ _ at inner one of_inner) =
      alike _ _ _ _ (eq.fold_expr-Await notes at inner) (eq.fold_expr-Await codes at inner) refl
  seen_self setting expected expr judged (is.fun _ _ closure closed of_closure) =
      alike _ _ _ _ (eq.fold_expr-Fun notes closure) (eq.fold_expr-Fun codes closure) refl
  seen_self setting expected expr judged (is.spawn _ _ at detached body closed of_body) =
      alike _ _ _ _ (eq.fold_expr-Spawn notes at detached body)
      (eq.fold_expr-Spawn codes at detached body) refl
  seen_self setting expected expr judged (is.yield _ _ at) =
      alike _ _ _ _ (eq.fold_expr-Yield notes at) (eq.fold_expr-Yield codes at) refl
