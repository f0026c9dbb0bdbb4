-- What is known of the base of a member and of a method, where it is a value.
use Rattle.std.proofs.Common.{◌≡◌, ℕ, List, [], ◌++◌, Option, Some, None, subst}
use Rattle.sw_tree.specs.declared.name.Name.{Name}
use Rattle.sw_types.specs.declared.ty.Ty.{Ty}
use Rattle.sw_typing_rules.specs.Expressions.{Judged, base_rows, member_by, member_judged, rows_by}
use Rattle.sw_typing_rules.specs.Expressions.{value_member}
use Rattle.sw_typing_rules.specs.declared.row.Row.{Row}
use Rattle.sw_lower_rules.specs.Tables.{Tables}
use Rattle.sw_typing_facts.specs.Rows.{RowsHold}
use Rattle.sw_typing_facts.proofs.Said.Rows.{rows_left}
use Rattle.sw_typing_facts.specs.EnumWords.{AreUnmeant, base_by, in_base}

module _ (tables : Tables) where
  -- what is said of it
  pub member_rows : (base : Judged) (name : Name) → base.enum ≡ None
      → RowsHold tables.answers (member_judged tables.world base name).rows
      → RowsHold tables.answers base.rows
  member_rows base name none rows =
      by base.ty (subst (λ named. RowsHold tables.answers
      (member_by tables.world base named name).rows) none rows) where
        by : (found : Option Ty)
            → RowsHold tables.answers (value_member tables.world base found name).rows
            → RowsHold tables.answers base.rows
        by None rows = rows_left tables.answers base.rows [] rows
        by (Some ty) rows = rows_left tables.answers base.rows _ rows

  pub method_base : (base : Judged) (more : List Row) → base.enum ≡ None
      → RowsHold tables.answers (base_rows base ++ more) → RowsHold tables.answers base.rows
  method_base base more none rows =
      subst (λ named. RowsHold tables.answers (rows_by named base.rows)) none
      (rows_left tables.answers (base_rows base) more rows)

  -- the words in it that name enums
  pub value_unmeant : (one : Judged) (inner : List ℕ)
      → AreUnmeant tables.answers (in_base one inner) → one.enum ≡ None
      → AreUnmeant tables.answers inner
  value_unmeant one inner none is =
      subst (λ e. AreUnmeant tables.answers (base_by one.key e inner)) is none
