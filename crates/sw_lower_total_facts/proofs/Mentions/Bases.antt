-- What the base of a member mentions: a word that names an enum mentions nothing.
use Rattle.std.proofs.Common.{◌≡◌, ℕ, List, [], Option, Some, None, map, refl, ap, sym, ◌∙◌, subst}
use Rattle.std.proofs.Common.{Bool, false}
use Rattle.std.proofs.lemmas.List.Elements.{All-head}
use Rattle.std.proofs.lemmas.Option.{none-some}
use Rattle.sw_tree.specs.Folds.{Steps, fold_expr, fold_link}
use Rattle.sw_tree.specs.declared.expr.Expr.{Expr}
use Rattle.sw_tree.proofs.FoldEquations as eq
use Rattle.sw_typing_rules.specs.Expressions.{Judged, rows_by}
use Rattle.sw_typing_rules.specs.Judges as is
use Rattle.sw_typing_rules.specs.Words.{Setting}
use Rattle.sw_typing_rules.specs.declared.scope.Var.{Var}
use Rattle.sw_isolation_rules.specs.Noting.{Linked, Seen, all_of, note_steps}
use Rattle.sw_lower_rules.specs.Tables.{Tables}
use Rattle.sw_typing_facts.specs.Rows.{RowsHold}
use Rattle.sw_typing_facts.specs.EnumWords.{AreUnmeant, in_base}
use Rattle.sw_typing_facts.proofs.Said.EnumNames.{links_enum, member_no_enum}
use Rattle.sw_tree.specs.Scopes.{Scoped}
use Rattle.sw_lower_total_facts.proofs.Mentions.Expressions.{word_notes_within}
use Rattle.sw_lower_total_facts.proofs.Mentions.Seen.{Within, within_both}

module _ (tables : Tables) where
  abbrev steps : Steps
  steps = note_steps tables.world tables.answers

  -- A word that names an enum, and of whose meaning nothing is said, mentions nothing.
  enum_within : (vars : List Var) (scoped : Scoped) (setting : Setting) (expected : Bool)
      (expr : Expr) (judged : Judged) → is.Judges tables.world setting expected expr judged
      → (k : ℕ) → judged.enum ≡ Some k → tables.answers.meaning_at judged.key ≡ None
      → Within tables vars scoped (fold_expr steps expr).notes
  enum_within vars scoped setting expected expr judged (is.int _ _ at value) k is none = cc
  enum_within vars scoped setting expected expr judged (is.bool _ _ at value) k is none = cc
  enum_within vars scoped setting expected expr judged (is.word _ _ name) k is none =
      subst (λ (seen : Seen). Within tables vars scoped seen.notes)
      (sym (eq.fold_expr-Use steps name))
      (word_notes_within tables vars scoped name.at
      (λ key means. absurd (none-some _ (sym none ∙ means))))
  enum_within vars scoped setting expected expr judged (is.me _ _ at) k is none = cc
  enum_within vars scoped setting expected expr judged (is.member _ _ base name one of_base) k is
      none =
      absurd (member_no_enum tables.world one name k is)
  enum_within vars scoped setting expected expr judged (is.call _ _ name args passed of_args) k is
      none = cc
  enum_within vars scoped setting expected expr judged
      (is.method _ _ base name args one passed of_base of_args) k is none = cc
  enum_within vars scoped setting expected expr judged
      (is.chain _ _ first rest left _ of_first of_rest) k is none =
      let alone = links_enum tables.world setting left judged rest of_rest k is in
      let inner = enum_within vars scoped setting false first left of_first k alone.1
      (ap tables.answers.meaning_at (sym alone.2) ∙ none) in
      let links : Within tables vars scoped
      (all_of (map (λ (link : Linked). link.operand) (map (fold_link steps) rest))) =
      subst (λ more. Within tables vars scoped
      (all_of (map (λ (link : Linked). link.operand) (map (fold_link steps) more)))) (sym alone.0)
      (λ context listed. tt) in
      subst (λ (seen : Seen). Within tables vars scoped seen.notes)
      (sym (eq.fold_expr-Chain steps first rest))
      (within_both tables vars scoped (fold_expr steps first).notes
      (all_of (map (λ (link : Linked). link.operand) (map (fold_link steps) rest))) inner links)
  enum_within vars scoped setting expected expr judged (is.prefix _ _ op at inner one of_inner) k is
      none = cc
  enum_within vars scoped setting expected expr judged (is.await _ _ at inner one of_inner) k is
      none = cc
  enum_within vars scoped setting expected expr judged (is.fun _ _ closure closed of_closure) k is
      none = cc
  enum_within vars scoped setting expected expr judged
      (is.spawn _ _ at detached body closed of_body) k is none = cc
  enum_within vars scoped setting expected expr judged (is.yield _ _ at) k is none = cc

  -- the base of a member: a word that names an enum, or a value
  pub base_within : (vars : List Var) (scoped : Scoped) (inner : List ℕ) (setting : Setting)
      (base : Expr) (judged : Judged) → is.Judges tables.world setting false base judged
      → (AreUnmeant tables.answers inner → RowsHold tables.answers judged.rows
      → Within tables vars scoped (fold_expr steps base).notes)
      → AreUnmeant tables.answers (in_base judged inner)
      → RowsHold tables.answers (rows_by judged.enum judged.rows)
      → Within tables vars scoped (fold_expr steps base).notes
  base_within vars scoped inner setting base judged judges within unmeant rows =
      by judged.enum refl unmeant rows where
        by : (named : Option ℕ) → judged.enum ≡ named
            → AreUnmeant tables.answers (in_base (record judged { enum = named }) inner)
            → RowsHold tables.answers (rows_by named judged.rows)
            → Within tables vars scoped (fold_expr steps base).notes
        by None is unmeant rows = within unmeant rows
        by (Some k) is unmeant rows =
            enum_within vars scoped setting false base judged judges k is
            (All-head (λ at. tables.answers.meaning_at at ≡ None) judged.key [] unmeant)
