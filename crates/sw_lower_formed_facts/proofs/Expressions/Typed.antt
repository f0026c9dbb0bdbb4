-- What is known of a well-typed expression, and what is said of the expressions in it.
use Rattle.std.proofs.Common.{◌≡◌, ℕ, Bool, true, List, [], ◌++◌, Option, Some, None, is_some, refl}
use Rattle.std.proofs.Common.{subst}
use Rattle.sw_tree.specs.declared.expr.Expr.{Expr}
use Rattle.sw_tree.specs.declared.expr.Link.{Link}
use Rattle.sw_tree.specs.declared.name.Name.{Name}
use Rattle.sw_types.specs.declared.ty.Ty.{Ty}
use Rattle.sw_typing_rules.specs.Expressions.{Judged, base_rows, infix_judged, member_by}
use Rattle.sw_typing_rules.specs.Expressions.{member_judged, rows_by, value_member}
use Rattle.sw_typing_rules.specs.Judges as is
use Rattle.sw_typing_rules.specs.Words.{Setting}
use Rattle.sw_typing_rules.specs.Worlds.{World}
use Rattle.sw_typing_rules.proofs.Welltyped.{typed_expr}
use Rattle.sw_isolation_rules.specs.Answers.{Answers}
use Rattle.sw_lower_rules.specs.Tables.{Tables}
use Rattle.sw_lower_formed_facts.specs.Forms.{VarsHold}
use Rattle.sw_typing_facts.specs.Rows.{RowsHold}
use Rattle.sw_lower_formed_facts.proofs.Bodies.ClosureRows.{vars_are_typed}
use Rattle.sw_typing_facts.proofs.Said.Rows.{rows_left, rows_well}

-- a type that is there
pub some_type : (found : Option Ty) → is_some found ≡ true → (ty : Ty) × (found ≡ Some ty)
some_type None is = cc
some_type (Some ty) is = (ty, refl)

module _ (world : World) (answers : Answers) where
  -- What is said of a chain is said of its first operand.
  pub first_rows : (setting : Setting) (left judged : Judged) (links : List Link)
      → is.Links world setting left links judged → RowsHold answers judged.rows
      → RowsHold answers left.rows
  first_rows setting left judged links (is.no_link _ _) rows = rows
  first_rows setting left judged links (is.one_link _ _ op at operand more right _ of_right rest)
      rows =
      rows_left answers left.rows right.rows
      (rows_left answers (left.rows ++ right.rows) _
      (first_rows setting (infix_judged op at left right) judged more rest rows))

  -- What is said of a member is said of its base,
  pub member_rows : (base : Judged) (name : Name)
      → RowsHold answers (member_judged world base name).rows → RowsHold answers (base_rows base)
  member_rows base name rows = by base.enum rows where
    value : (found : Option Ty) → RowsHold answers (value_member world base found name).rows
        → RowsHold answers base.rows
    value None rows = rows_left answers base.rows [] rows
    value (Some ty) rows = rows_left answers base.rows _ rows

    by : (named : Option ℕ) → RowsHold answers (member_by world base named name).rows
        → RowsHold answers (rows_by named base.rows)
    by None rows = value base.ty rows
    by (Some shape) rows = tt

  -- where the base is a value.
  pub valued_rows : (base : Judged) → base.enum ≡ None → RowsHold answers (base_rows base)
      → RowsHold answers base.rows
  valued_rows base none rows = subst (λ named. RowsHold answers (rows_by named base.rows)) none rows

module _ (tables : Tables) where
  -- A well-typed expression has a type.
  pub has_type : (setting : Setting) (expected : Bool) (expr : Expr) (judged : Judged)
      → is.Judges tables.world setting expected expr judged → VarsHold tables.answers setting.vars
      → RowsHold tables.answers judged.rows → is_some judged.ty ≡ true
  has_type setting expected expr judged judges vars rows =
      typed_expr tables.world setting expected expr judged judges
      (vars_are_typed tables.answers setting.vars vars) (rows_well tables.answers judged.rows rows)

  -- the type of an expression
  pub type_of_expr : (setting : Setting) (expected : Bool) (expr : Expr) (judged : Judged)
      → is.Judges tables.world setting expected expr judged → VarsHold tables.answers setting.vars
      → RowsHold tables.answers judged.rows → (ty : Ty) × (judged.ty ≡ Some ty)
  type_of_expr setting expected expr judged judges vars rows =
      some_type judged.ty (has_type setting expected expr judged judges vars rows)

  -- what is said of the first operand of a chain
  pub rows_before : (setting : Setting) (left judged : Judged) (links : List Link)
      → is.Links tables.world setting left links judged → RowsHold tables.answers judged.rows
      → RowsHold tables.answers left.rows
  rows_before = first_rows tables.world tables.answers
