-- What is called takes the arguments, where the node of a call isn't ill.
use Rattle.std.proofs.Common.{◌≡◌, ℕ, List, [], ◌∷◌, ◌++◌, Option, Some, None, refl, ap, ◌∙◌, subst}
use Rattle.std.proofs.Common.{Bool, true, false}
use Rattle.std.specs.List.{list_all}
use Rattle.std.specs.Prelude.{◌==◌, ◌||◌, is_none, length, not, ◌&&◌, if◌then◌else◌, is_some, map}
use Rattle.std.specs.Prelude.{slice_get}
use Rattle.sw_types.specs.declared.ty.Ty.{Ty}
use Rattle.sw_types.specs.declared.ty.Ty.TheVariants as types
use Rattle.sw_graph.specs.declared.function.Function.{Function}
use Rattle.sw_graph.specs.declared.instr.Operand.{Operand}
use Rattle.sw_decls.specs.declared.signature.Signature.{Signature}
use Rattle.sw_typing_rules.specs.Calls.{Callee, Prints, Slot, Takes, Uncallable, all_typed}
use Rattle.sw_typing_rules.specs.Calls.{call_types, callee_meaning, called, func_callee, labels_fit}
use Rattle.sw_typing_rules.specs.Calls.{param_slot, print_types, printable_type, signature_callee}
use Rattle.sw_typing_rules.specs.Calls.{types_fit}
use Rattle.sw_typing_rules.specs.Expressions.{Passed, call_judged}
use Rattle.sw_typing_rules.specs.Verdicts.{meaning_rows, rows_of, type_in}
use Rattle.sw_typing_rules.specs.declared.row.Meaning.{Meaning}
use Rattle.sw_typing_rules.specs.declared.row.Row.{Row}
use Rattle.sw_typing_rules.specs.declared.verdict.Given.{Given}
use Rattle.sw_typing_rules.specs.declared.verdict.Verdict.TheVariants.{Fails, Has, Held}
use Rattle.sw_isolation_rules.specs.Answers.{Answers}
use Rattle.sw_lower_plans.specs.Plan.{Numbers}
use Rattle.sw_lower_code.specs.Code.{Code}
use Rattle.sw_lower_code.specs.Whole.{Body}
use Rattle.sw_lower_rules.specs.Expressions.{value}
use Rattle.sw_lower_rules.specs.Tables.{Tables}
use Rattle.sw_lower_formed_facts.specs.Forms.{ExprOk}
use Rattle.sw_typing_facts.specs.Rows.{RowsHold}
use Rattle.sw_lower_formed_facts.proofs.Expressions.Arguments.{HaveTypes}
use Rattle.sw_lower_formed_facts.proofs.Expressions.Values.{CodeGives, value_ok}
use Rattle.sw_typing_facts.proofs.Said.Rows.{rows_left, rows_right}

-- Arguments that have types are all typed.
typed_all : (given : List Given) (tys : List Ty) → HaveTypes given tys → all_typed given ≡ true
typed_all [] [] have = refl
typed_all [] (ty ∷ tys) have = absurd have
typed_all (one ∷ given) [] have = absurd have
typed_all (one ∷ given) (ty ∷ tys) have =
    ap (λ found. is_some found && all_typed given) have.0 ∙ typed_all given tys have.1

-- what is said of the call then
call_is : (callee : Callee) (given : List Given) (tys : List Ty) → HaveTypes given tys
    → call_types callee given ≡ called callee given
call_is callee given tys have =
    ap (λ all. if all then called callee given else Held) (typed_all given tys have)

-- the rows of the call alone
verdict_rows : (answers : Answers) (callee : Callee) (at : ℕ) (before : List Row)
    (passed : Passed) (tys : List Ty) → HaveTypes passed.given tys
    → RowsHold answers (call_judged callee at before passed).rows
    → RowsHold answers (rows_of at (called callee passed.given))
verdict_rows answers callee at before passed tys have hold =
    subst (λ verdict. RowsHold answers (rows_of at verdict))
    (call_is callee passed.given tys have)
    (rows_right answers (before ++ (passed.rows ++ meaning_rows at (callee_meaning callee)))
    (rows_of at (call_types callee passed.given)) hold)

-- What can't be called isn't.
pub never_called : (answers : Answers) (code at : ℕ) (before : List Row) (passed : Passed)
    (tys : List Ty) → HaveTypes passed.given tys
    → RowsHold answers (call_judged (Uncallable code) at before passed).rows → ⊥
never_called answers code at before passed tys have hold =
    (verdict_rows answers (Uncallable code) at before passed tys have hold).0

-- what a call means
pub meaning_is : (answers : Answers) (callee : Callee) (meaning : Meaning) (at : ℕ)
    (before : List Row) (passed : Passed) → callee_meaning callee ≡ Some meaning
    → RowsHold answers (call_judged callee at before passed).rows
    → answers.meaning_at at ≡ Some meaning
meaning_is answers callee meaning at before passed is hold =
    (subst (λ found. RowsHold answers (meaning_rows at found)) is
    (rows_right answers passed.rows (meaning_rows at (callee_meaning callee))
    (rows_right answers before (passed.rows ++ meaning_rows at (callee_meaning callee))
    (rows_left answers (before ++ (passed.rows ++ meaning_rows at (callee_meaning callee)))
    (rows_of at (call_types callee passed.given)) hold)))).0

-- The arguments of a call that means this fit, and it has the type of the result.
pub record Fitted (answers : Answers) (at : ℕ) (given : List Given) (meaning : Meaning)
    (slots : List Slot) (result : Ty) : Type 0 where
  pub means : answers.meaning_at at ≡ Some meaning
  pub labels : labels_fit slots given ≡ true
  pub types : types_fit slots given ≡ true
  pub typed : answers.type_at at ≡ Some result
  pub verdict : called (Takes meaning slots result) given ≡ Has result

-- what a call says where what is called takes the arguments
fitted : (answers : Answers) (at : ℕ) (before : List Row) (passed : Passed) (tys : List Ty)
    (meaning : Meaning) (slots : List Slot) (result : Ty) → HaveTypes passed.given tys
    → RowsHold answers (call_judged (Takes meaning slots result) at before passed).rows
    → Fitted answers at passed.given meaning slots result
fitted answers at before passed tys meaning slots result have hold =
    by (labels_fit slots passed.given) (types_fit slots passed.given) refl refl
    (verdict_rows answers (Takes meaning slots result) at before passed tys have hold) where
      by : (labels types : Bool) → labels_fit slots passed.given ≡ labels
          → types_fit slots passed.given ≡ types
          → RowsHold answers (rows_of at
          (if labels then (if types then Has result else Fails 402) else Fails 403))
          → Fitted answers at passed.given meaning slots result
      by true true one two rows = record {
        means = meaning_is answers (Takes meaning slots result) meaning at before passed refl hold;
        labels = one;
        types = two;
        typed = rows.0;
        verdict = ap (λ labels. if labels
            then (if types_fit slots passed.given then Has result else Fails 402)
            else Fails 403) one
            ∙ ap (λ types. if types then Has result else Fails 402) two;
      }
      by true false one two rows = absurd rows.0
      by false types one two rows = absurd rows.0

-- what `print` says of its arguments
pub record Printed (given : List Given) : Type 0 where
  pub printable : list_all (λ (one : Given). printable_type one.ty) given ≡ true
  pub verdict : print_types given ≡ Has types.Unit

-- what a call of `print` says
pub printed : (answers : Answers) (at : ℕ) (before : List Row) (passed : Passed)
    (tys : List Ty) → HaveTypes passed.given tys
    → RowsHold answers (call_judged Prints at before passed).rows → Printed passed.given
printed answers at before passed tys have hold =
    by ((length passed.given == 0)
    || not (list_all (λ (one : Given). is_none one.label) passed.given))
    (list_all (λ (one : Given). printable_type one.ty) passed.given) refl refl
    (verdict_rows answers Prints at before passed tys have hold) where
      by : (labelled printable : Bool)
          → ((length passed.given == 0)
          || not (list_all (λ (one : Given). is_none one.label) passed.given)) ≡ labelled
          → list_all (λ (one : Given). printable_type one.ty) passed.given ≡ printable
          → RowsHold answers (rows_of at
          (if labelled then Fails 403 else (if printable then Has types.Unit else Fails 402)))
          → Printed passed.given
      by true printable one two rows = absurd rows.0
      by false true one two rows = record {
        printable = two;
        verdict = ap (λ labelled. if labelled then Fails 403
            else (if list_all (λ (one : Given). printable_type one.ty) passed.given
            then Has types.Unit else Fails 402)) one
            ∙ ap (λ printable. if printable then Has types.Unit else Fails 402) two;
      }
      by false false one two rows = absurd rows.0

module _ (tables : Tables) (number : Numbers) (functions : List Function) where
  -- a call of what takes the arguments
  pub takes_ok : (owner : Option ℕ) (at : ℕ) (before : List Row) (passed : Passed)
      (tys : List Ty) (meaning : Meaning) (slots : List Slot) (result : Ty) (read : Code Operand)
      (inside : List Body) → HaveTypes passed.given tys
      → RowsHold tables.answers (call_judged (Takes meaning slots result) at before passed).rows
      → (Fitted tables.answers at passed.given meaning slots result
      → CodeGives tables number functions owner read result inside)
      → ExprOk tables number functions owner (value at read inside)
      (call_judged (Takes meaning slots result) at before passed)
  takes_ok owner at before passed tys meaning slots result read inside have hold rule =
      let fit = fitted tables.answers at before passed tys meaning slots result have hold in
      value_ok tables number functions owner at read inside
      (call_judged (Takes meaning slots result) at before passed) result
      (ap type_in (call_is (Takes meaning slots result) passed.given tys have ∙ fit.verdict))
      fit.typed (rule fit)

  -- a call of a function by its number
  pub func_ok : (owner : Option ℕ) (at : ℕ) (before : List Row) (passed : Passed)
      (tys : List Ty) (meaning : ℕ → Meaning) (code : ℕ) (found : Option ℕ) (read : Code Operand)
      (inside : List Body) → HaveTypes passed.given tys
      → RowsHold tables.answers
      (call_judged (func_callee tables.world meaning code found) at before passed).rows
      → ((n : ℕ) (func : Signature) → found ≡ Some n
      → slice_get tables.world.funcs n ≡ Some func
      → Fitted tables.answers at passed.given (meaning n) (map param_slot func.params) func.result
      → CodeGives tables number functions owner read func.result inside)
      → ExprOk tables number functions owner (value at read inside)
      (call_judged (func_callee tables.world meaning code found) at before passed)
  func_ok owner at before passed tys meaning code None read inside have hold rule =
      absurd (never_called tables.answers code at before passed tys have hold)
  func_ok owner at before passed tys meaning code (Some n) read inside have hold rule =
      by (slice_get tables.world.funcs n) refl hold where
        by : (found : Option Signature) → slice_get tables.world.funcs n ≡ found
            → RowsHold tables.answers
            (call_judged (signature_callee (meaning n) code found) at before passed).rows
            → ExprOk tables number functions owner (value at read inside)
            (call_judged (signature_callee (meaning n) code found) at before passed)
        by None is rows = absurd (never_called tables.answers code at before passed tys have rows)
        by (Some func) is rows =
            takes_ok owner at before passed tys (meaning n) (map param_slot func.params) func.result
            read inside have rows (rule n func refl is)

  -- a call of `print`
  pub prints_ok : (owner : Option ℕ) (at : ℕ) (before : List Row) (passed : Passed)
      (tys : List Ty) (read : Code Operand) (inside : List Body) → HaveTypes passed.given tys
      → RowsHold tables.answers (call_judged Prints at before passed).rows
      → (tables.answers.type_at at ≡ Some types.Unit
      → CodeGives tables number functions owner read types.Unit inside)
      → ExprOk tables number functions owner (value at read inside)
      (call_judged Prints at before passed)
  prints_ok owner at before passed tys read inside have hold rule =
      let print = printed tables.answers at before passed tys have hold in
      let typed = (subst (λ verdict. RowsHold tables.answers (rows_of at verdict)) print.verdict
      (verdict_rows tables.answers Prints at before passed tys have hold)).0 in
      value_ok tables number functions owner at read inside (call_judged Prints at before passed)
      types.Unit (ap type_in (call_is Prints passed.given tys have ∙ print.verdict)) typed
      (rule typed)
