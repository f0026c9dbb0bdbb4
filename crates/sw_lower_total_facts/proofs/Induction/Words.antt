-- Literals, words, `self` and `Task.yield()`: expressions without parts.
use Rattle.std.proofs.Common.{ℕ, ℤ, Bool, List, [], ap, ◌∙◌}
use Rattle.sw_tree.specs.declared.name.Name.{Name}
use Rattle.sw_tree.proofs.FoldEquations as eq
use Rattle.sw_typing_rules.specs.Judges as is
use Rattle.sw_typing_rules.specs.Words.{Setting}
use Rattle.sw_isolation_rules.specs.Noting.{Seen, see}
use Rattle.sw_isolation_rules.specs.declared.note.Note.{Note}
use Rattle.sw_lower_plans.specs.Plan.{Numbers}
use Rattle.sw_lower_rules.specs.Statements.{code_steps, expr_code}
use Rattle.sw_lower_rules.specs.Tables.{Tables}
use Rattle.sw_lower_total_facts.specs.Known.{TablesAgree}
use Rattle.sw_lower_total_facts.specs.Noted.{kinds_of}
use Rattle.sw_lower_total_facts.proofs.Expressions.Senses.{ShapesStand}
use Rattle.sw_lower_total_facts.proofs.Expressions.Simple.{bool_proceeds, int_proceeds, yield_proceeds}
use Rattle.sw_lower_total_facts.proofs.Expressions.Words.{me_proceeds, word_proceeds}
use Rattle.sw_lower_total_facts.proofs.Induction.Claims.{ExprClaim}
use Rattle.sw_lower_total_facts.proofs.Induction.Forms.{expr_by, seeing}
use Rattle.sw_lower_total_facts.proofs.Standing.Own.{use_kinds}

module _ (tables : Tables) (number : Numbers) (all : List Note) where
  pub int_case : (setting : Setting) (expected : Bool) (at : ℕ) (value : ℤ)
      → ExprClaim tables number all (is.int setting expected at value)
  unfolding see expr_code
  int_case setting expected at value unmeant none vars rows numbered context listed same stands =
      expr_by tables number setting.owner context listed setting.vars _ _ _ _
      (ap (λ (s : Seen). s.notes context listed) (eq.fold_expr-Int (seeing tables) at value))
      (eq.fold_expr-Int (code_steps tables setting.owner) at value) numbered
      (λ form. int_proceeds tables number context listed setting.vars [] at value)

  pub bool_case : (setting : Setting) (expected : Bool) (at : ℕ) (value : Bool)
      → ExprClaim tables number all (is.bool setting expected at value)
  unfolding see expr_code
  bool_case setting expected at value unmeant none vars rows numbered context listed same stands =
      expr_by tables number setting.owner context listed setting.vars _ _ _ _
      (ap (λ (s : Seen). s.notes context listed)
      (eq.fold_expr-Bool (seeing tables) at value))
      (eq.fold_expr-Bool (code_steps tables setting.owner) at value) numbered
      (λ form. bool_proceeds tables number context listed setting.vars [] at value)

  pub yield_case : (setting : Setting) (expected : Bool) (at : ℕ)
      → ExprClaim tables number all (is.yield setting expected at)
  unfolding see expr_code
  yield_case setting expected at unmeant none vars rows numbered context listed same stands =
      expr_by tables number setting.owner context listed setting.vars _ _ _ _
      (ap (λ (s : Seen). s.notes context listed) (eq.fold_expr-Yield (seeing tables) at))
      (eq.fold_expr-Yield (code_steps tables setting.owner) at) numbered
      (λ form. yield_proceeds tables number context listed setting.vars _ at)

  module _ (known : TablesAgree tables number all) (stand : ShapesStand tables.world) where
    pub word_case : (setting : Setting) (expected : Bool) (name : Name)
        → ExprClaim tables number all (is.word setting expected name)
    unfolding see expr_code
    word_case setting expected name unmeant none vars rows numbered context listed same stands =
        let noted_is = ap (λ (s : Seen). s.notes context listed)
        (eq.fold_expr-Use (seeing tables) name) in
        expr_by tables number setting.owner context listed setting.vars _ _ _ _ noted_is
        (eq.fold_expr-Use (code_steps tables setting.owner) name) numbered
        (λ form. word_proceeds tables number all known stand context listed setting same name rows
        (use_kinds tables.world tables.answers context listed all _ _ name stands
        ∙ ap (kinds_of name.at) noted_is))

    pub me_case : (setting : Setting) (expected : Bool) (at : ℕ)
        → ExprClaim tables number all (is.me setting expected at)
    unfolding see expr_code
    me_case setting expected at unmeant none vars rows numbered context listed same stands =
        expr_by tables number setting.owner context listed setting.vars _ _ _ _
        (ap (λ (s : Seen). s.notes context listed) (eq.fold_expr-Me (seeing tables) at))
        (eq.fold_expr-Me (code_steps tables setting.owner) at) numbered
        (λ form. me_proceeds tables number all known stand context listed setting same at rows)
