-- What the rules on types say of a body that gives a value.
use Rattle.std.proofs.Common.{◌≡◌, ℕ, Bool, true, false, List, [], ◌∷◌, ◌++◌, Option, Some, None}
use Rattle.std.proofs.Common.{refl, sym, ap, ◌∙◌, subst, true≢false}
use Rattle.std.proofs.lemmas.Bool.{false≢true}
use Rattle.std.specs.Prelude.{◌&&◌, not, map, if◌then◌else◌}
use Rattle.std.proofs.lemmas.Option.{same_Some}
use Rattle.sw_types.specs.declared.ty.Ty.{Ty}
use Rattle.sw_types.specs.declared.ty.Ty.TheVariants as types
use Rattle.sw_isolation_rules.specs.Answers.{Answers}
use Rattle.sw_typing_rules.specs.Expressions.{Judged}
use Rattle.sw_typing_rules.specs.Statements.{Left, State, accepted_left, bare_rows, bind_left}
use Rattle.sw_typing_rules.specs.Statements.{body_result, body_rows, discard_left, is_result}
use Rattle.sw_typing_rules.specs.Statements.{lacks_result, plain_left, result_left}
use Rattle.sw_typing_rules.specs.Statements.{return_value, return_void}
use Rattle.sw_tree.specs.declared.name.Name.{Name}
use Rattle.sw_typing_rules.specs.Verdicts.{all_well, is_unit, unit_layer}
use Rattle.sw_typing_rules.specs.declared.row.Row.TheVariants.{Ill}
use Rattle.sw_typing_rules.specs.declared.scope.Returned.{Returned}
use Rattle.sw_typing_rules.specs.declared.scope.Returned.TheVariants.{Gives, Open, Wants}
use Rattle.sw_typing_facts.specs.Rows.{RowsHold}
use Rattle.sw_typing_facts.proofs.Said.Rows.{not_ill, rows_left, rows_right, rows_well, well_if}
use Rattle.sw_lower_return_facts.specs.Forms.{GivesValue}

-- `return` without a value stands in no such body.
pub void_never : (answers : Answers) (found : Returned) (state : State) (at : ℕ)
    → RowsHold answers (return_void found state at).rows → state.returned ≡ found
    → GivesValue (return_void found state at).state.returned → ⊥
void_never answers (Wants ty) state at hold is gives =
    unit_never ty (well_if answers (is_unit ty) at 402 hold)
    (subst GivesValue is gives) where
      unit_never : (ty : Ty) → is_unit ty ≡ true → is_unit ty ≡ false → ⊥
      unit_never ty one other = true≢false (sym one ∙ other)
void_never answers (Open places) state at hold is gives = never places gives where
  never : (places : List ℕ) → GivesValue (Open (places ++ at ∷ [])) → ⊥
  never [] gives = gives
  never (one ∷ more) gives = gives
void_never answers (Gives None) state at hold is gives = subst GivesValue is gives
void_never answers (Gives (Some ty)) state at hold is gives =
    true≢false (sym (well_if answers (is_unit ty) at 402 hold) ∙ subst GivesValue is gives)

-- The first value comes after no `return` without one.
first_back : (answers : Answers) (places : List ℕ) (found : Option Ty)
    → RowsHold answers (bare_rows places found) → GivesValue (Gives found)
    → GivesValue (Open places)
first_back answers [] found hold gives = tt
first_back answers (at ∷ places) None hold gives = gives
first_back answers (at ∷ places) (Some ty) hold gives =
    (subst (λ unit. RowsHold answers
    (if unit then [] else map (λ one. Ill one 402 None) (at ∷ places)))
    gives hold).0

-- What is given at the end was to be given before a `return` with a value.
pub value_back : (answers : Answers) (found : Returned) (state : State) (at : ℕ) (value : Judged)
    → RowsHold answers (return_value found state at value).rows → state.returned ≡ found
    → GivesValue (return_value found state at value).state.returned → GivesValue state.returned
value_back answers (Wants ty) state at value hold is gives = gives
value_back answers (Open places) state at value hold is gives =
    subst GivesValue (sym is) (first_back answers places value.ty
    (rows_right answers value.rows (bare_rows places value.ty) hold) gives)
value_back answers (Gives None) state at value hold is gives = gives
value_back answers (Gives (Some ty)) state at value hold is gives = gives

-- and of an expression
pub plain_back : (answers : Answers) (only : Bool) (state : State) (value : Judged)
    → RowsHold answers (plain_left only state value).rows
    → GivesValue (plain_left only state value).state.returned → GivesValue state.returned
plain_back answers false state value hold gives = gives
plain_back answers true state value hold gives = by state.returned refl hold gives where
  wanted : (unit : Bool) (ty : Ty)
      → GivesValue (if unit then discard_left state value
      else accepted_left state value.key value ty).state.returned → GivesValue state.returned
  wanted true ty gives = gives
  wanted false ty gives = gives

  by : (found : Returned) → state.returned ≡ found
      → RowsHold answers (result_left found state value).rows
      → GivesValue (result_left found state value).state.returned → GivesValue state.returned
  by (Wants ty) is hold gives = wanted (is_unit ty) ty gives
  by (Open places) is hold gives =
      subst GivesValue (sym is) (first_back answers places value.ty
      (rows_right answers value.rows (bare_rows places value.ty) hold) gives)
  by (Gives ty) is hold gives = gives

-- A declaration leaves what is given as it is.
pub bind_back : (state : State) (mutable : Bool) (name : Name) (written : Option Ty)
    (value : Judged)
    → GivesValue (bind_left state mutable name written value).state.returned
    → GivesValue state.returned
bind_back state mutable name None value gives = gives
bind_back state mutable name (Some ty) value gives = gives

-- A body whose result is a value gives one.
pub result_gives : (found : Returned) (result : Ty) → body_result found ≡ Some result
    → is_unit result ≡ false → GivesValue found
result_gives (Wants ty) result is value =
    subst (λ one. is_unit one ≡ false) (sym (same_Some ty result is)) value
result_gives (Open places) result is value =
    absurd (true≢false (sym unit_so ∙ subst (λ one. is_unit one ≡ false)
    (sym (same_Some types.Unit result is)) value)) where
      unit_so : is_unit types.Unit ≡ true
      unit_so = ap unit_layer types.outs-Unit
result_gives (Gives None) result is value = cc
result_gives (Gives (Some ty)) result is value =
    subst (λ one. is_unit one ≡ false) (sym (same_Some ty result is)) value

-- All ways of a body that gives a value end in `return`.
pub lacking_ends : (answers : Answers) (left : Left) (result : Ty) → RowsHold answers left.rows
    → lacks_result left ≡ false → body_result left.state.returned ≡ Some result
    → is_unit result ≡ false → left.ends ≡ true
lacking_ends answers left result hold lacks is value =
    ends_by (all_well left.rows) (is_result (body_result left.state.returned)) left.ends
    (rows_well answers left.rows hold)
    (ap is_result is ∙ ap not value) lacks where
      ends_by : (well gives ends : Bool) → well ≡ true → gives ≡ true
          → (well && (gives && not ends)) ≡ false → ends ≡ true
      ends_by true true true one two none = refl
      ends_by true true false one two none = absurd (true≢false none)
      ends_by true false ends one two none = absurd (false≢true two)
      ends_by false gives ends one two none = absurd (false≢true one)

pub body_ends : (answers : Answers) (at : ℕ) (left : Left) (result : Ty)
    → RowsHold answers (body_rows at left) → body_result left.state.returned ≡ Some result
    → is_unit result ≡ false → left.ends ≡ true
body_ends answers at left result hold is value =
    lacking_ends answers left result (rows_left answers left.rows _ hold)
    (not_ill answers (lacks_result left) at 406 (rows_right answers left.rows _ hold)) is value
