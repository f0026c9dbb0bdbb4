-- What is said of members and of calls of members: of the value before them, or of an enum's case.
use Rattle.std.proofs.Common.{◌≡◌, ℕ, List, [], ◌∷◌, ◌++◌, Option, Some}
use Rattle.std.proofs.Common.{None, refl, sym, subst, ◌⊎◌}
use Rattle.std.proofs.Common.{inl, inr}
use Rattle.sw_tree.specs.declared.name.Name.{Name}
use Rattle.sw_types.specs.declared.shape.CaseShape.{CaseShape}
use Rattle.sw_types.specs.declared.ty.Ty.{Ty}
use Rattle.sw_typing_rules.specs.Calls.{Callee, Uncallable, callee_meaning}
use Rattle.sw_typing_rules.specs.Calls.{case_callee, case_in, case_meaning, enum_callee}
use Rattle.sw_typing_rules.specs.Calls.{enum_types, payload_callee}
use Rattle.sw_typing_rules.specs.Expressions.{Judged, Passed, base_rows, call_judged, case_judged}
use Rattle.sw_typing_rules.specs.Expressions.{method_by, method_callee, value_member}
use Rattle.sw_typing_rules.specs.Verdicts.{meaning_rows, rows_of}
use Rattle.sw_typing_rules.specs.Worlds.{World, case_at}
use Rattle.sw_typing_rules.specs.declared.row.Meaning.TheVariants as means
use Rattle.sw_typing_rules.specs.declared.row.Row.{Row}
use Rattle.sw_typing_facts.specs.Rows.{RowsHold}
use Rattle.sw_lower_formed_facts.proofs.Expressions.Arguments.{HaveTypes}
use Rattle.sw_lower_formed_facts.proofs.Expressions.Callees.{meaning_is, never_called}
use Rattle.sw_typing_facts.proofs.Said.Rows.{rows_left}
use Rattle.sw_isolation_rules.specs.Answers.{Answers}

module _ (world : World) (answers : Answers) where
  -- what is said of a value before a member
  pub value_rows : (base : Judged) (found : Option Ty) (name : Name)
      → RowsHold answers (value_member world base found name).rows
      → RowsHold answers base.rows
  value_rows base None name rows = rows_left answers base.rows [] rows
  value_rows base (Some ty) name rows = rows_left answers base.rows _ rows

  -- a case without payload
  pub case_means : (k : ℕ) (name : Name) → RowsHold answers (case_judged world k name).rows
      → (i : ℕ) × (answers.meaning_at name.at ≡ Some (means.CaseOf k i))
  case_means k name rows = by (case_in world k name.id) rows where
    by : (found : Option ℕ)
        → RowsHold answers (meaning_rows name.at (case_meaning k found)
        ++ rows_of name.at (enum_types world k found))
        → (i : ℕ) × (answers.meaning_at name.at ≡ Some (means.CaseOf k i))
    by None rows = absurd rows.0
    by (Some i) rows = (i, rows.0)

  -- what makes a case with payload: it means the case, or can't be called
  abbrev CaseOr : Callee → ℕ → Type 0
  CaseOr callee k = ((i : ℕ) × (callee_meaning callee ≡ Some (means.CaseOf k i)))
      ⊎ ((code : ℕ) × (callee ≡ Uncallable code))

  payload_or : (k i : ℕ) (payload : List Ty) → CaseOr (payload_callee k i payload) k
  payload_or k i [] = inr (407, refl)
  payload_or k i (ty ∷ tys) = inl (i, refl)

  case_or : (k i : ℕ) (found : Option CaseShape) → CaseOr (case_callee k i found) k
  case_or k i None = inr (407, refl)
  case_or k i (Some one) = payload_or k i one.payload

  enum_or : (k : ℕ) (found : Option ℕ) → CaseOr (enum_callee world k found) k
  enum_or k None = inr (407, refl)
  enum_or k (Some i) = case_or k i (case_at world k i)

  called_means : (callee : Callee) (k : ℕ) (at : ℕ) (before : List Row) (passed : Passed)
      (tys : List Ty) → HaveTypes passed.given tys
      → RowsHold answers (call_judged callee at before passed).rows → CaseOr callee k
      → (i : ℕ) × (answers.meaning_at at ≡ Some (means.CaseOf k i))
  called_means callee k at before passed tys have rows (inl (i, is)) =
      (i, meaning_is answers callee (means.CaseOf k i) at before passed is rows)
  called_means callee k at before passed tys have rows (inr (code, is)) =
      absurd (never_called answers code at before passed tys have
      (subst (λ c. RowsHold answers (call_judged c at before passed).rows) is rows))

  pub method_means : (one : Judged) (k : ℕ) → one.enum ≡ Some k → (name : Name) (passed : Passed)
      (tys : List Ty) → HaveTypes passed.given tys
      → RowsHold answers
      (call_judged (method_callee world one name) name.at (base_rows one) passed).rows
      → (i : ℕ) × (answers.meaning_at name.at ≡ Some (means.CaseOf k i))
  method_means one k named name passed tys have rows =
      called_means (method_callee world one name) k name.at (base_rows one) passed tys have rows
      (subst (λ enum. CaseOr (method_by world enum one.ty name.id) k) (sym named)
      (enum_or k (case_in world k name.id)))
