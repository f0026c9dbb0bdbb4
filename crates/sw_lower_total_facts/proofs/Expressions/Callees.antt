-- A call asks for nothing that isn't known where that is so for what it may mean.
use Rattle.std.proofs.Common.{◌≡◌, ℕ, Bool, true, false, List, ◌++◌, Option, Some, None, refl}
use Rattle.std.proofs.Common.{sym, subst, map}
use Rattle.std.proofs.lemmas.Bool.{false≢true}
use Rattle.std.specs.Prelude.{IsSome, is_some, slice_get, if◌then◌else◌}
use Rattle.sw_types.specs.declared.shape.Part.{Part}
use Rattle.sw_types.specs.declared.ty.Ty.{Ty, out-Ty}
use Rattle.sw_types.specs.declared.ty.Ty.TheOpen as layer
use Rattle.sw_graph.specs.declared.instr.Operand.{Operand}
use Rattle.sw_decls.specs.declared.signature.GlobalVar.{GlobalVar}
use Rattle.sw_decls.specs.declared.signature.Signature.{Signature}
use Rattle.sw_typing_rules.specs.Calls.{Callee, Takes, Uncallable, Untyped, all_typed}
use Rattle.sw_typing_rules.specs.Calls.{call_types, callee_meaning, func_callee, param_slot}
use Rattle.sw_typing_rules.specs.Calls.{part_callee, signature_callee, unlabelled, value_layer}
use Rattle.sw_typing_rules.specs.Calls.{variable_callee, global_callee}
use Rattle.sw_typing_rules.specs.Expressions.{Passed, call_judged}
use Rattle.sw_typing_rules.specs.Verdicts.{meaning_rows, rows_of, type_in}
use Rattle.sw_typing_rules.specs.declared.row.Meaning.{Meaning}
use Rattle.sw_typing_rules.specs.declared.row.Row.{Row}
use Rattle.sw_typing_rules.specs.declared.scope.Var.{Var}
use Rattle.sw_typing_rules.specs.declared.verdict.Verdict.{Verdict}
use Rattle.sw_typing_rules.specs.declared.verdict.Verdict.TheVariants.{Fails, Has, Held}
use Rattle.sw_isolation_rules.specs.Answers.{Answers}
use Rattle.sw_isolation_rules.specs.declared.note.Note.{Note}
use Rattle.sw_isolation_rules.specs.declared.uses.Context.{Context}
use Rattle.sw_lower_plans.specs.Plan.{Numbers}
use Rattle.sw_lower_code.specs.Code.{Code}
use Rattle.sw_lower_rules.specs.Tables.{Tables}
use Rattle.sw_typing_facts.specs.Rows.{RowsHold}
use Rattle.sw_lower_formed_facts.proofs.Expressions.Callees.{meaning_is}
use Rattle.sw_typing_facts.proofs.Said.Rows.{rows_right}
use Rattle.sw_lower_total_facts.specs.Bound.{seen_in}
use Rattle.sw_lower_total_facts.proofs.Proceeding.Each.{Goes}

-- A node with a type has the one that is noted of it.
pub type_said : (answers : Answers) (at : ℕ) (verdict : Verdict)
    → is_some (type_in verdict) ≡ true → RowsHold answers (rows_of at verdict)
    → IsSome (answers.type_at at)
type_said answers at (Has ty) typed rows = subst IsSome (sym rows.0) refl
type_said answers at (Fails code) typed rows = absurd (false≢true typed)
type_said answers at Held typed rows = absurd (false≢true typed)

module _ (tables : Tables) (number : Numbers) (context : Context) (listed : List ℕ)
    (vars : List Var) (notes : List Note) (at : ℕ) (before : List Row) (passed : Passed)
    (call : Code Operand) where
  abbrev Going : Type 0
  Going = Goes tables number context listed (seen_in tables context.owner vars) notes call

  -- where a well-typed call of this proceeds
  abbrev pub CallGoes : Callee → Type 0
  CallGoes callee = is_some (call_judged callee at before passed).ty ≡ true
      → RowsHold tables.answers (call_judged callee at before passed).rows → Going

  -- what can't be called
  pub uncallable : (code : ℕ) → CallGoes (Uncallable code)
  uncallable code typed rows = by (all_typed passed.given) typed where
    by : (all : Bool) → is_some (type_in (if all then Fails code else Held)) ≡ true → Going
    by true is = absurd (false≢true is)
    by false is = absurd (false≢true is)

  pub untyped : (meaning : Option Meaning) → CallGoes (Untyped meaning)
  untyped meaning typed rows = by (all_typed passed.given) typed where
    by : (all : Bool) → is_some (type_in (if all then Held else Held)) ≡ true → Going
    by true is = absurd (false≢true is)
    by false is = absurd (false≢true is)

  -- what has a meaning
  pub meant_goes : (callee : Callee) (meaning : Meaning) → callee_meaning callee ≡ Some meaning
      → (tables.answers.meaning_at at ≡ Some meaning → IsSome (tables.answers.type_at at) → Going)
      → CallGoes callee
  meant_goes callee meaning is goes typed rows =
      goes (meaning_is tables.answers callee meaning at before passed is rows)
      (type_said tables.answers at (call_types callee passed.given) typed
      (rows_right tables.answers
      (before ++ (passed.rows ++ meaning_rows at (callee_meaning callee)))
      (rows_of at (call_types callee passed.given)) rows))

  -- a value that holds a closure
  pub value_goes : (meaning : Meaning) (code : ℕ) (ty : Ty)
      → (tables.answers.meaning_at at ≡ Some meaning → IsSome (tables.answers.type_at at) → Going)
      → CallGoes (value_layer meaning code (out-Ty ty))
  value_goes meaning code ty goes = by (out-Ty ty) where
    by : (form : layer.Ty-F Ty) → CallGoes (value_layer meaning code form)
    by layer.Int = uncallable code
    by layer.Bool = uncallable code
    by layer.Unit = uncallable code
    by (layer.Named k) = uncallable code
    by (layer.Func marked params result) =
        meant_goes (Takes meaning (map unlabelled params) result) meaning refl goes
    by (layer.Task inner) = uncallable code

  -- a variable
  pub variable_goes : (meaning : Meaning) (found : Option Ty)
      → (tables.answers.meaning_at at ≡ Some meaning → IsSome (tables.answers.type_at at) → Going)
      → CallGoes (variable_callee meaning found)
  variable_goes meaning None goes = untyped (Some meaning)
  variable_goes meaning (Some ty) goes = value_goes meaning 401 ty goes

  -- a property
  pub part_goes : (meaning : Meaning) (code : ℕ) (found : Option Part)
      → ((part : Part) → found ≡ Some part → tables.answers.meaning_at at ≡ Some meaning
      → IsSome (tables.answers.type_at at) → Going)
      → CallGoes (part_callee meaning code found)
  part_goes meaning code None goes = uncallable code
  part_goes meaning code (Some part) goes = value_goes meaning code part.ty (goes part refl)

  -- a global variable
  pub global_goes : (meaning : Meaning) (found : Option GlobalVar)
      → ((global : GlobalVar) → found ≡ Some global → tables.answers.meaning_at at ≡ Some meaning
      → IsSome (tables.answers.type_at at) → Going)
      → CallGoes (global_callee meaning found)
  global_goes meaning None goes = uncallable 401
  global_goes meaning (Some global) goes = value_goes meaning 401 global.ty (goes global refl)

  -- a function by its number
  pub func_goes : (meaning : ℕ → Meaning) (code : ℕ) (found : Option ℕ)
      → ((n : ℕ) (func : Signature) → slice_get tables.world.funcs n ≡ Some func
      → tables.answers.meaning_at at ≡ Some (meaning n) → Going)
      → CallGoes (func_callee tables.world meaning code found)
  func_goes meaning code None goes = uncallable code
  func_goes meaning code (Some n) goes = by (slice_get tables.world.funcs n) refl where
    by : (found : Option Signature) → slice_get tables.world.funcs n ≡ found
        → CallGoes (signature_callee (meaning n) code found)
    by None is = uncallable code
    by (Some func) is =
        meant_goes (Takes (meaning n) (map param_slot func.params) func.result) (meaning n) refl
        (λ means typed. goes n func is means)
