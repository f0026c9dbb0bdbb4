-- The rules of calls: the types that they give are declared.
use Rattle.std.proofs.Common.{ℕ, ◌<◌, List, [], ◌∷◌, Option, Some, None, slice_get}
use Rattle.std.specs.List.{list_all}
use Rattle.std.specs.Prelude.{IfSome}
use Rattle.sw_tree.specs.declared.name.Name.{Name}
use Rattle.sw_types.specs.declared.shape.CaseShape.{CaseShape}
use Rattle.sw_types.specs.declared.shape.Part.{Part}
use Rattle.sw_types.specs.declared.shape.Shape.{Shape}
use Rattle.sw_types.specs.declared.shape.ShapeKind.{ShapeKind}
use Rattle.sw_types.specs.declared.shape.ShapeKind.TheVariants as kind
use Rattle.sw_types.specs.declared.ty.Ty.{Ty, out-Ty}
use Rattle.sw_types.specs.declared.ty.Ty.TheOpen as layer
use Rattle.sw_types.specs.declared.ty.Ty.TheVariants as types
use Rattle.sw_decl_words.specs.declared.words.Meaning as words
use Rattle.sw_decl_words.specs.declared.words.Meaning.TheVariants as word
use Rattle.sw_decls.specs.declared.signature.GlobalVar.{GlobalVar}
use Rattle.sw_decls.specs.declared.signature.Signature.{Signature}
use Rattle.sw_typing_rules.specs.Calls as calls
use Rattle.sw_typing_rules.specs.Calls.{Callee, Takes, Untyped, Prints, Uncallable, callee_meaning}
use Rattle.sw_typing_rules.specs.Expressions as exps
use Rattle.sw_typing_rules.specs.Expressions.{Passed, call_judged}
use Rattle.sw_typing_rules.specs.Words as senses
use Rattle.sw_typing_rules.specs.Words.{Nothing, OwnCase, OwnMethod, OwnProperty, Printing, Sense}
use Rattle.sw_typing_rules.specs.Words.{Setting, Top, Variable}
use Rattle.sw_typing_rules.specs.Worlds.{World, and_then, case_at, part_at}
use Rattle.sw_typing_rules.specs.declared.found.Found.{Found}
use Rattle.sw_typing_rules.specs.declared.found.Found.TheVariants.{Method, NoMember, Property}
use Rattle.sw_typing_rules.specs.declared.found.Found.TheVariants.{Result}
use Rattle.sw_typing_rules.specs.declared.row.Meaning.{Meaning}
use Rattle.sw_typing_rules.specs.declared.row.Meaning.TheVariants as means
use Rattle.sw_typing_rules.specs.declared.row.Row.{Row}
use Rattle.sw_typing_rules.specs.declared.verdict.Given.{Given}
use Rattle.sw_typing_rules.specs.declared.verdict.Verdict.TheVariants.{Fails, Has, Held}
use Rattle.sw_typing_facts.proofs.Declared.Lookups.{case_below, func_is, global_is, part_is}
use Rattle.sw_typing_facts.proofs.Declared.Lookups.{shape_below}
use Rattle.sw_typing_facts.proofs.Declared.Noted.{JudgedWithin, RowsWithin, VarsWithin, join}
use Rattle.sw_typing_facts.proofs.Declared.Noted.{meanings, size}
use Rattle.sw_typing_facts.proofs.Declared.Senses.{SenseWithin, sensed}
use Rattle.sw_typing_facts.proofs.Declared.Tables.{FuncWithin, GlobalWithin, PartWithin, TablesWithin}
use Rattle.sw_typing_facts.proofs.Declared.Verdicts.{VerdictWithin, either, noted}
use Rattle.sw_typing_facts.proofs.Types.Within.{IfWithin, LayerWithin, Within, named_within}
use Rattle.sw_typing_facts.proofs.Types.Within.{out_within, unit_within}

-- the result of what is called
abbrev CalleeWithin : ℕ → Callee → Type 0
CalleeWithin n (Takes meaning slots result) = Within n result
CalleeWithin n (Untyped meaning) = Unit {0}
CalleeWithin n Prints = Unit {0}
CalleeWithin n (Uncallable code) = Unit {0}

module _ (n : ℕ) where
  -- a call

  print_types : (given : List Given) → VerdictWithin n (calls.print_types given)
  print_types given =
      either n _ (Fails 403) _ tt
      (either n (list_all (λ (one : Given). calls.printable_type one.ty) given)
      (Has types.Unit) (Fails 402) (unit_within n) tt)

  called : (callee : Callee) (given : List Given) → CalleeWithin n callee
      → VerdictWithin n (calls.called callee given)
  called (Takes meaning slots result) given is =
      either n (calls.labels_fit slots given) _ (Fails 403)
      (either n (calls.types_fit slots given) (Has result) (Fails 402) is tt) tt
  called (Untyped meaning) given is = tt
  called Prints given is = print_types given
  called (Uncallable code) given is = tt

  call_types : (callee : Callee) (given : List Given) → CalleeWithin n callee
      → VerdictWithin n (calls.call_types callee given)
  call_types callee given is =
      either n (calls.all_typed given) (calls.called callee given) Held (called callee given is) tt

  -- a call
  pub call : (callee : Callee) (at : ℕ) (before : List Row) (passed : Passed)
      → CalleeWithin n callee → RowsWithin n before → RowsWithin n passed.rows
      → JudgedWithin n (call_judged callee at before passed)
  call callee at before passed is first are =
      noted n at (calls.call_types callee passed.given) _
      (join n before _ first (join n passed.rows _ are (meanings n at (callee_meaning callee))))
      (call_types callee passed.given is)

  -- what is called

  value_layer : (meaning : Meaning) (code : ℕ) (form : layer.Ty-F Ty) → LayerWithin n form
      → CalleeWithin n (calls.value_layer meaning code form)
  value_layer meaning code layer.Int is = tt
  value_layer meaning code layer.Bool is = tt
  value_layer meaning code layer.Unit is = tt
  value_layer meaning code (layer.Named shape) is = tt
  value_layer meaning code (layer.Func marked params result) is = is.1
  value_layer meaning code (layer.Task inner) is = tt

  value_callee : (meaning : Meaning) (code : ℕ) (ty : Ty) → Within n ty
      → CalleeWithin n (calls.value_layer meaning code (out-Ty ty))
  value_callee meaning code ty is = value_layer meaning code (out-Ty ty) (out_within n ty is)

  variable_callee : (meaning : Meaning) (ty : Option Ty) → IfWithin n ty
      → CalleeWithin n (calls.variable_callee meaning ty)
  variable_callee meaning None is = tt
  variable_callee meaning (Some ty) is = value_callee meaning 401 ty is

  part_callee : (meaning : Meaning) (code : ℕ) (part : Option Part) → IfSome part (PartWithin n)
      → CalleeWithin n (calls.part_callee meaning code part)
  part_callee meaning code None is = tt
  part_callee meaning code (Some part) is = value_callee meaning code part.ty is

  global_callee : (meaning : Meaning) (global : Option GlobalVar)
      → IfSome global (GlobalWithin n) → CalleeWithin n (calls.global_callee meaning global)
  global_callee meaning None is = tt
  global_callee meaning (Some global) is = value_callee meaning 401 global.ty is

  payload_callee : (shape number : ℕ) (payload : List Ty) → shape < n
      → CalleeWithin n (calls.payload_callee shape number payload)
  payload_callee shape number [] is = tt
  payload_callee shape number (ty ∷ tys) is = named_within n shape is

  case_callee : (shape number : ℕ) (one : Option CaseShape) → IfSome one (λ _. shape < n)
      → CalleeWithin n (calls.case_callee shape number one)
  case_callee shape number None is = tt
  case_callee shape number (Some one) is = payload_callee shape number one.payload is

  struct_callee : (number : ℕ) (shape : Option Shape) → IfSome shape (λ _. number < n)
      → CalleeWithin n (calls.struct_callee number shape)
  struct_callee number None is = tt
  struct_callee number (Some shape) is = named_within n number is

  signature_callee : (meaning : Meaning) (code : ℕ) (func : Option Signature)
      → IfSome func (FuncWithin n) → CalleeWithin n (calls.signature_callee meaning code func)
  signature_callee meaning code None is = tt
  signature_callee meaning code (Some func) is = is.1

module _ (world : World) (tables : TablesWithin world) where
  -- what is called

  func_callee : (meaning : ℕ → Meaning) (code : ℕ) (number : Option ℕ)
      → CalleeWithin (size world) (calls.func_callee world meaning code number)
  func_callee meaning code None = tt
  func_callee meaning code (Some number) =
      signature_callee (size world) (meaning number) code (slice_get world.funcs number)
      (func_is world tables number)

  make_callee : (made : ShapeKind) (number : ℕ)
      → CalleeWithin (size world) (calls.make_callee world made number)
  make_callee kind.Struct number =
      struct_callee (size world) number (slice_get world.shapes number)
      (shape_below world tables number)
  make_callee kind.Enum number = tt
  make_callee kind.Class number =
      func_callee (λ n. means.MakeOf number) 401
      (and_then (slice_get world.makers number) world.numbers)
  make_callee kind.Actor number =
      func_callee (λ n. means.MakeOf number) 401
      (and_then (slice_get world.makers number) world.numbers)

  top_callee : (meaning : words.Meaning)
      → CalleeWithin (size world) (calls.top_callee world meaning)
  top_callee (word.Shape made number) = make_callee made number
  top_callee (word.GlobalActor number) = tt
  top_callee (word.Func key) = func_callee means.FuncOf 401 (world.numbers key)
  top_callee (word.Global number) =
      global_callee (size world) (means.GlobalOf number) (slice_get world.globals number)
      (global_is world tables number)
  top_callee word.Entry = tt

  word_callee : (sense : Sense) → SenseWithin (size world) sense
      → CalleeWithin (size world) (calls.word_callee world sense)
  word_callee (Variable one) is = variable_callee (size world) (means.Local one.at) one.ty is
  word_callee (OwnProperty shape number) is =
      part_callee (size world) (means.OwnPart number) 401 (part_at world shape number)
      (part_is world tables shape number)
  word_callee (OwnMethod key) is = func_callee means.OwnFunc 401 (world.numbers key)
  word_callee OwnCase is = tt
  word_callee (Top meaning) is = top_callee meaning
  word_callee Printing is = tt
  word_callee Nothing is = tt

  -- what a call by a word calls
  pub call_callee : (setting : Setting) (name : Name) → VarsWithin (size world) setting.vars
      → CalleeWithin (size world) (exps.call_callee world setting name)
  call_callee setting name are =
      word_callee (senses.sense world setting name.id) (sensed world tables setting name.id are)

  found_callee : (found : Found) → CalleeWithin (size world) (calls.found_callee world found)
  found_callee (Property shape number) =
      part_callee (size world) (means.PartOf number) 407 (part_at world shape number)
      (part_is world tables shape number)
  found_callee (Method key) = func_callee means.FuncOf 407 (world.numbers key)
  found_callee (Result ty) = tt
  found_callee NoMember = tt

  enum_callee : (shape : ℕ) (number : Option ℕ)
      → CalleeWithin (size world) (calls.enum_callee world shape number)
  enum_callee shape None = tt
  enum_callee shape (Some number) =
      case_callee (size world) shape number (case_at world shape number)
      (case_below world tables shape number)

  value_method : (ty : Option Ty) (id : ℕ)
      → CalleeWithin (size world) (exps.value_method world ty id)
  value_method None id = tt
  value_method (Some ty) id = found_callee (senses.found_in world ty id)

  -- what a call of a member calls
  pub method_by : (enum : Option ℕ) (ty : Option Ty) (id : ℕ)
      → CalleeWithin (size world) (exps.method_by world enum ty id)
  method_by None ty id = value_method ty id
  method_by (Some shape) ty id = enum_callee shape (calls.case_in world shape id)

  -- the rows of what stands before a member
  pub rows_by : (enum : Option ℕ) (rows : List Row) → RowsWithin (size world) rows
      → RowsWithin (size world) (exps.rows_by enum rows)
  rows_by None rows are = are
  rows_by (Some shape) rows are = tt
