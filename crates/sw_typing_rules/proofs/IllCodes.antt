-- The codes of ill nodes are those of types, E401 to E408.
use Rattle.std.proofs.Common.{ℕ, ◌≤◌, Bool, true, false, List, [], ◌∷◌, ◌++◌, Option, Some, None}
use Rattle.std.proofs.Common.{Contains, arith, flat_map, map, if◌then◌else◌, not, ◌&&◌, ◌||◌}
use Rattle.std.proofs.Common.{is_some, slice_get}
use Rattle.std.proofs.lemmas.List.Elements.{All-contains, All-from_recursion}
use Rattle.std.specs.List.{AllByRecursion, list_all}
use Rattle.sw_tree.specs.declared.decl.Decl.{Decl}
use Rattle.sw_tree.specs.declared.expr.Arg.{Arg}
use Rattle.sw_tree.specs.declared.expr.Closure.{Closure}
use Rattle.sw_tree.specs.declared.expr.ClosureParam.{ClosureParam}
use Rattle.sw_tree.specs.declared.expr.Expr.{Expr}
use Rattle.sw_tree.specs.declared.expr.Link.{Link}
use Rattle.sw_tree.specs.declared.name.Name.{Name}
use Rattle.sw_tree.specs.declared.operator.AssignOp.{AssignOp}
use Rattle.sw_tree.specs.declared.operator.InfixOp.{InfixOp}
use Rattle.sw_tree.specs.declared.operator.PrefixOp.{PrefixOp}
use Rattle.sw_tree.specs.declared.operator.PrefixOp.TheVariants as prefix_of
use Rattle.sw_tree.specs.declared.stmt.Block.{Block}
use Rattle.sw_tree.specs.declared.stmt.CaseArm.{CaseArm}
use Rattle.sw_tree.specs.declared.stmt.IfArm.{IfArm}
use Rattle.sw_tree.specs.declared.stmt.Stmt.{Stmt}
use Rattle.sw_types.specs.Accepts.{is_marked}
use Rattle.sw_types.specs.declared.shape.CaseShape.{CaseShape}
use Rattle.sw_types.specs.declared.shape.Part.{Part}
use Rattle.sw_types.specs.declared.shape.Shape.{Shape}
use Rattle.sw_types.specs.declared.shape.ShapeKind.{ShapeKind}
use Rattle.sw_types.specs.declared.shape.ShapeKind.TheVariants as kind
use Rattle.sw_types.specs.declared.ty.Ty.{Ty, out-Ty}
use Rattle.sw_types.specs.declared.ty.Ty.TheOpen as layer
use Rattle.sw_types.specs.declared.ty.Ty.TheVariants as types
use Rattle.sw_decl_words.specs.declared.words.Meaning as words
use Rattle.sw_decl_words.specs.declared.words.Meaning.TheVariants as word
use Rattle.sw_decls.specs.declared.signature.GlobalVar.{GlobalVar}
use Rattle.sw_decls.specs.declared.signature.Signature.{Signature}
use Rattle.sw_typing_rules.specs.Calls as calls
use Rattle.sw_typing_rules.specs.Calls.{Callee, Slot, Takes, Untyped, Prints, Uncallable}
use Rattle.sw_typing_rules.specs.Calls.{slots_of, callee_meaning}
use Rattle.sw_typing_rules.specs.Expressions as exps
use Rattle.sw_typing_rules.specs.Expressions.{Judged, Closed, Passed, call_judged, infix_judged}
use Rattle.sw_typing_rules.specs.Expressions.{call_callee, method_callee, base_rows, later}
use Rattle.sw_typing_rules.specs.Expressions.{first_marked}
use Rattle.sw_typing_rules.specs.Fits.{fits}
use Rattle.sw_typing_rules.specs.Judges as is
use Rattle.sw_typing_rules.specs.Judges.{head_of, arm_state, case_of}
use Rattle.sw_typing_rules.specs.Operators as operators
use Rattle.sw_typing_rules.proofs.Doubts.{decided_keep}
use Rattle.sw_typing_rules.specs.Programs.{IsIll, Says, of_body, of_value, params_of, body_noted}
use Rattle.sw_typing_rules.specs.Programs.{body_state, value_noted, value_setting}
use Rattle.sw_typing_rules.specs.Statements as left
use Rattle.sw_typing_rules.specs.Statements.{State, Left, Armed, setting_of, in_branch, in_loop}
use Rattle.sw_typing_rules.specs.Statements.{in_switch, in_body, with_only, is_one, written}
use Rattle.sw_typing_rules.specs.Statements.{marked_type, place_type, marked_result, expects}
use Rattle.sw_typing_rules.specs.Statements.{cases_of, arm_payload, closure_state, beside}
use Rattle.sw_typing_rules.specs.Verdicts.{rows_of, meaning_rows, variable_rows, ill_if, is_unit}
use Rattle.sw_typing_rules.specs.Verdicts.{ill_unless, is_int, is_bool}
use Rattle.sw_typing_rules.specs.Words as senses
use Rattle.sw_typing_rules.specs.Words.{Setting, Sense, Variable, OwnProperty, OwnMethod, OwnCase}
use Rattle.sw_typing_rules.specs.Words.{Top, Printing, Nothing}
use Rattle.sw_typing_rules.specs.Worlds.{World, part_at, case_at, and_then}
use Rattle.sw_typing_rules.specs.declared.found.Found.{Found}
use Rattle.sw_typing_rules.specs.declared.found.Found.TheVariants.{Property, Method, Result}
use Rattle.sw_typing_rules.specs.declared.found.Found.TheVariants.{NoMember}
use Rattle.sw_typing_rules.specs.declared.row.Meaning.{Meaning}
use Rattle.sw_typing_rules.specs.declared.row.Meaning.TheVariants as means
use Rattle.sw_typing_rules.specs.declared.row.Row.{Row}
use Rattle.sw_typing_rules.specs.declared.row.Row.TheVariants.{Typed, Means, Ill}
use Rattle.sw_typing_rules.specs.declared.scope.Inside.{Inside}
use Rattle.sw_typing_rules.specs.declared.scope.Returned.{Returned}
use Rattle.sw_typing_rules.specs.declared.scope.Returned.TheVariants.{Wants, Open, Gives}
use Rattle.sw_typing_rules.specs.declared.scope.Var.{Var}
use Rattle.sw_typing_rules.specs.declared.verdict.Given.{Given}
use Rattle.sw_typing_rules.specs.declared.verdict.Verdict.{Verdict}
use Rattle.sw_typing_rules.specs.declared.verdict.Verdict.TheVariants.{Has, Fails, Held}

-- a code of an ill node
abbrev pub IsTypeCode : ℕ → Type 0
IsTypeCode code = (401 ≤ code) × (code ≤ 408)

abbrev IsCoded : Row → Type 0
IsCoded (Typed at ty) = Unit {0}
IsCoded (Means at meaning) = Unit {0}
IsCoded (Ill at code unless) = IsTypeCode code

abbrev AreCoded : List Row → Type 0
AreCoded rows = AllByRecursion IsCoded rows

abbrev FailsCoded : Verdict → Type 0
FailsCoded (Has ty) = Unit {0}
FailsCoded (Fails code) = IsTypeCode code
FailsCoded Held = Unit {0}

abbrev RefusesCoded : Callee → Type 0
RefusesCoded (Takes meaning slots result) = Unit {0}
RefusesCoded (Untyped meaning) = Unit {0}
RefusesCoded Prints = Unit {0}
RefusesCoded (Uncallable code) = IsTypeCode code

name_code : IsTypeCode 401
name_code = (omega arith, omega arith)

type_code : IsTypeCode 402
type_code = (omega arith, omega arith)

arguments_code : IsTypeCode 403
arguments_code = (omega arith, omega arith)

constant_code : IsTypeCode 404
constant_code = (omega arith, omega arith)

switch_code : IsTypeCode 405
switch_code = (omega arith, omega arith)

result_code : IsTypeCode 406
result_code = (omega arith, omega arith)

member_code : IsTypeCode 407
member_code = (omega arith, omega arith)

leave_code : IsTypeCode 408
leave_code = (omega arith, omega arith)

-- lists of what is noted

join : (rows more : List Row) → AreCoded rows → AreCoded more → AreCoded (rows ++ more)
join [] more first second = second
join (row ∷ rows) more first second = (first.0, join rows more first.1 second)

each : {X : Type 0} (f : X → List Row) → ((x : X) → AreCoded (f x)) → (xs : List X)
    → AreCoded (flat_map f xs)
each f are [] = tt
each f are (x ∷ xs) = join (f x) (flat_map f xs) (are x) (each f are xs)

ill_unless_of : (fails : Bool) (at code : ℕ) (unless : Option ℕ) → IsTypeCode code
    → AreCoded (ill_unless fails at code unless)
ill_unless_of true at code unless is = (is, tt)
ill_unless_of false at code unless is = tt

ill : (fails : Bool) (at code : ℕ) → IsTypeCode code → AreCoded (ill_if fails at code)
ill fails at code is = ill_unless_of fails at code None is

meanings : (at : ℕ) (meaning : Option Meaning) → AreCoded (meaning_rows at meaning)
meanings at None = tt
meanings at (Some meaning) = (tt, tt)

variables : (at : ℕ) (ty : Option Ty) → AreCoded (variable_rows at ty)
variables at None = tt
variables at (Some ty) = (tt, tt)

vars : (list : List Var) → AreCoded (left.vars_rows list)
vars list =
    each (λ (one : Var). variable_rows one.at one.ty) (λ one. variables one.at one.ty) list

verdict : (at : ℕ) (says : Verdict) → FailsCoded says → AreCoded (rows_of at says)
verdict at (Has ty) is = (tt, tt)
verdict at (Fails code) is = (is, tt)
verdict at Held is = tt

noted : (at : ℕ) (says : Verdict) (rows : List Row) → AreCoded rows → FailsCoded says
    → AreCoded (rows ++ rows_of at says)
noted at says rows are is = join rows (rows_of at says) are (verdict at says is)

refused : (at : ℕ) (ty : Option Ty) (wanted : Ty) → AreCoded (left.refused at ty wanted)
refused at None wanted = tt
refused at (Some ty) wanted = ill (not (fits ty wanted)) at 402 type_code

-- what the rules say

either : (test : Bool) (one other : Verdict) → FailsCoded one → FailsCoded other
    → FailsCoded (if test then one else other)
either true one other first second = first
either false one other first second = second

infix_types : (op : InfixOp) (l r : Option Ty) → FailsCoded (operators.infix_types op l r)
infix_types op None r = tt
infix_types op (Some l) None = tt
infix_types op (Some l) (Some r) =
    either (operators.takes (operators.sort_of op) l r)
    (Has (operators.gives (operators.sort_of op))) (Fails 402) tt type_code

prefix_types : (op : PrefixOp) (ty : Option Ty) → FailsCoded (operators.prefix_types op ty)
prefix_types op None = tt
prefix_types prefix_of.Not (Some ty) = either (is_bool ty) (Has types.Bool) (Fails 402) tt type_code
prefix_types prefix_of.Negate (Some ty) =
    either (is_int ty) (Has types.Int) (Fails 402) tt type_code

var_types : (ty : Option Ty) → FailsCoded (senses.var_types ty)
var_types None = tt
var_types (Some ty) = tt

part_types : (part : Option Part) (code : ℕ) → IsTypeCode code
    → FailsCoded (senses.part_types part code)
part_types None code is = is
part_types (Some part) code is = tt

global_types : (global : Option GlobalVar) → FailsCoded (senses.global_types global)
global_types None = name_code
global_types (Some global) = tt

me_types : (owner : Option ℕ) → FailsCoded (senses.me_types owner)
me_types None = name_code
me_types (Some shape) = tt

fun_types : (marked : Bool) (params : List Ty) (result : Option Ty)
    → FailsCoded (exps.fun_types marked params result)
fun_types marked params None = tt
fun_types marked params (Some result) = tt

task_types : (result : Option Ty) → FailsCoded (exps.task_types result)
task_types None = tt
task_types (Some result) = tt

payload_types : (shape : ℕ) (payload : List Ty) → FailsCoded (calls.payload_types shape payload)
payload_types shape [] = tt
payload_types shape (ty ∷ tys) = member_code

case_types : (shape : ℕ) (one : Option CaseShape) → FailsCoded (calls.case_types shape one)
case_types shape None = member_code
case_types shape (Some one) = payload_types shape one.payload

print_types : (given : List Given) → FailsCoded (calls.print_types given)
print_types given =
    either _ (Fails 403) _ arguments_code
    (either (list_all (λ (one : Given). calls.printable_type one.ty) given)
    (Has types.Unit) (Fails 402) tt type_code)

called : (callee : Callee) (given : List Given) → RefusesCoded callee
    → FailsCoded (calls.called callee given)
called (Takes meaning slots result) given is =
    either (calls.labels_fit slots given) _ (Fails 403)
    (either (calls.types_fit slots given) (Has result) (Fails 402) tt type_code) arguments_code
called (Untyped meaning) given is = tt
called Prints given is = print_types given
called (Uncallable code) given is = is

call_types : (callee : Callee) (given : List Given) → RefusesCoded callee
    → FailsCoded (calls.call_types callee given)
call_types callee given is =
    either (calls.all_typed given) (calls.called callee given) Held (called callee given is) tt

-- what is called

value_layer : (meaning : Meaning) (code : ℕ) (ty : layer.Ty-F Ty) → IsTypeCode code
    → RefusesCoded (calls.value_layer meaning code ty)
value_layer meaning code layer.Int is = is
value_layer meaning code layer.Bool is = is
value_layer meaning code layer.Unit is = is
value_layer meaning code (layer.Named shape) is = is
value_layer meaning code (layer.Func marked params result) is = tt
value_layer meaning code (layer.Task inner) is = is

variable_callee : (meaning : Meaning) (ty : Option Ty)
    → RefusesCoded (calls.variable_callee meaning ty)
variable_callee meaning None = tt
variable_callee meaning (Some ty) = value_layer meaning 401 (out-Ty ty) name_code

part_callee : (meaning : Meaning) (code : ℕ) (part : Option Part) → IsTypeCode code
    → RefusesCoded (calls.part_callee meaning code part)
part_callee meaning code None is = is
part_callee meaning code (Some part) is = value_layer meaning code (out-Ty part.ty) is

global_callee : (meaning : Meaning) (global : Option GlobalVar)
    → RefusesCoded (calls.global_callee meaning global)
global_callee meaning None = name_code
global_callee meaning (Some global) = value_layer meaning 401 (out-Ty global.ty) name_code

payload_callee : (shape number : ℕ) (payload : List Ty)
    → RefusesCoded (calls.payload_callee shape number payload)
payload_callee shape number [] = member_code
payload_callee shape number (ty ∷ tys) = tt

case_callee : (shape number : ℕ) (one : Option CaseShape)
    → RefusesCoded (calls.case_callee shape number one)
case_callee shape number None = member_code
case_callee shape number (Some one) = payload_callee shape number one.payload

struct_callee : (number : ℕ) (shape : Option Shape)
    → RefusesCoded (calls.struct_callee number shape)
struct_callee number None = name_code
struct_callee number (Some shape) = tt

signature_callee : (meaning : Meaning) (code : ℕ) (func : Option Signature) → IsTypeCode code
    → RefusesCoded (calls.signature_callee meaning code func)
signature_callee meaning code None is = is
signature_callee meaning code (Some func) is = tt

module _ (world : World) where
  func_callee : (meaning : ℕ → Meaning) (code : ℕ) (number : Option ℕ) → IsTypeCode code
      → RefusesCoded (calls.func_callee world meaning code number)
  func_callee meaning code None is = is
  func_callee meaning code (Some number) is =
      signature_callee (meaning number) code (slice_get world.funcs number) is

  make_callee : (made : ShapeKind) (number : ℕ)
      → RefusesCoded (calls.make_callee world made number)
  make_callee kind.Struct number = struct_callee number (slice_get world.shapes number)
  make_callee kind.Enum number = name_code
  make_callee kind.Class number =
      func_callee (λ n. means.MakeOf number) 401
      (and_then (slice_get world.makers number) world.numbers) name_code
  make_callee kind.Actor number =
      func_callee (λ n. means.MakeOf number) 401
      (and_then (slice_get world.makers number) world.numbers) name_code

  top_callee : (meaning : words.Meaning) → RefusesCoded (calls.top_callee world meaning)
  top_callee (word.Shape made number) = make_callee made number
  top_callee (word.GlobalActor number) = name_code
  top_callee (word.Func key) = func_callee means.FuncOf 401 (world.numbers key) name_code
  top_callee (word.Global number) =
      global_callee (means.GlobalOf number) (slice_get world.globals number)
  top_callee word.Entry = name_code

  word_callee : (sense : Sense) → RefusesCoded (calls.word_callee world sense)
  word_callee (Variable variable) = variable_callee (means.Local variable.at) variable.ty
  word_callee (OwnProperty shape number) =
      part_callee (means.OwnPart number) 401 (part_at world shape number) name_code
  word_callee (OwnMethod key) = func_callee means.OwnFunc 401 (world.numbers key) name_code
  word_callee OwnCase = name_code
  word_callee (Top meaning) = top_callee meaning
  word_callee Printing = tt
  word_callee Nothing = name_code

  found_callee : (found : Found) → RefusesCoded (calls.found_callee world found)
  found_callee (Property shape number) =
      part_callee (means.PartOf number) 407 (part_at world shape number) member_code
  found_callee (Method key) = func_callee means.FuncOf 407 (world.numbers key) member_code
  found_callee (Result ty) = member_code
  found_callee NoMember = member_code

  enum_callee : (shape : ℕ) (number : Option ℕ)
      → RefusesCoded (calls.enum_callee world shape number)
  enum_callee shape None = member_code
  enum_callee shape (Some number) = case_callee shape number (case_at world shape number)

  value_method : (ty : Option Ty) (id : ℕ) → RefusesCoded (exps.value_method world ty id)
  value_method None id = tt
  value_method (Some ty) id = found_callee (senses.found_in world ty id)

  method_by : (enum : Option ℕ) (ty : Option Ty) (id : ℕ)
      → RefusesCoded (exps.method_by world enum ty id)
  method_by None ty id = value_method ty id
  method_by (Some shape) ty id = enum_callee shape (calls.case_in world shape id)

  enum_types : (shape : ℕ) (number : Option ℕ) → FailsCoded (calls.enum_types world shape number)
  enum_types shape None = member_code
  enum_types shape (Some number) = case_types shape (case_at world shape number)

  top_types : (meaning : words.Meaning) → FailsCoded (senses.top_types world meaning)
  top_types (word.Shape made number) = name_code
  top_types (word.GlobalActor number) = name_code
  top_types (word.Func key) = name_code
  top_types (word.Global number) = global_types (slice_get world.globals number)
  top_types word.Entry = name_code

  word_types : (sense : Sense) → FailsCoded (senses.word_types world sense)
  word_types (Variable variable) = var_types variable.ty
  word_types (OwnProperty shape number) = part_types (part_at world shape number) 401 name_code
  word_types (OwnMethod key) = name_code
  word_types OwnCase = name_code
  word_types (Top meaning) = top_types meaning
  word_types Printing = name_code
  word_types Nothing = name_code

  found_types : (found : Found) → FailsCoded (senses.found_types world found)
  found_types (Property shape number) = part_types (part_at world shape number) 407 member_code
  found_types (Method key) = member_code
  found_types (Result ty) = tt
  found_types NoMember = member_code

  -- expressions

  value_member : (base : Judged) (ty : Option Ty) (name : Name) → AreCoded base.rows
      → AreCoded (exps.value_member world base ty name).rows
  value_member base None name are = noted name.at Held base.rows are tt
  value_member base (Some ty) name are =
      let found = senses.found_in world ty name.id in
      join base.rows _ are (noted name.at (senses.found_types world found)
      (meaning_rows name.at (senses.found_meaning found))
      (meanings name.at (senses.found_meaning found)) (found_types found))

  member_by : (base : Judged) (enum : Option ℕ) (name : Name) → AreCoded base.rows
      → AreCoded (exps.member_by world base enum name).rows
  member_by base None name are = value_member base base.ty name are
  member_by base (Some shape) name are =
      let number = calls.case_in world shape name.id in
      noted name.at (calls.enum_types world shape number)
      (meaning_rows name.at (calls.case_meaning shape number))
      (meanings name.at (calls.case_meaning shape number)) (enum_types shape number)

rows_by : (enum : Option ℕ) (rows : List Row) → AreCoded rows → AreCoded (exps.rows_by enum rows)
rows_by None rows are = are
rows_by (Some shape) rows are = tt

call : (callee : Callee) (at : ℕ) (before : List Row) (passed : Passed) → RefusesCoded callee
    → AreCoded before → AreCoded passed.rows
    → AreCoded (call_judged callee at before passed).rows
call callee at before passed is first are =
    noted at (calls.call_types callee passed.given) _
    (join before _ first (join passed.rows _ are (meanings at (callee_meaning callee))))
    (call_types callee passed.given is)

-- statements

bind : (state : State) (mutable : Bool) (name : Name) (ty : Option Ty) (value : Judged)
    → AreCoded value.rows → AreCoded (left.bind_left state mutable name ty value).rows
bind state mutable name None value are = join value.rows _ are (variables name.at value.ty)
bind state mutable name (Some ty) value are =
    join value.rows _ are
    (join (left.refused name.at value.ty ty) _ (refused name.at value.ty ty)
    (variables name.at (Some ty)))

misassigned : (op : AssignOp) (at : ℕ) (place value : Option Ty)
    → AreCoded (left.misassigned op at place value)
misassigned op at None value = tt
misassigned op at (Some place) None = tt
misassigned op at (Some place) (Some value) =
    ill (not (operators.assigns op place value)) at 402 type_code

assign : (inside : Inside) (state : State) (at : ℕ) (op : AssignOp) (place value : Judged)
    → AreCoded place.rows → AreCoded value.rows
    → AreCoded (left.assign_left inside state at op place value).rows
assign inside state at op place value first second =
    join place.rows _ first
    (join (ill_if (left.fixed inside place) place.key 404) _
    (ill (left.fixed inside place) place.key 404 constant_code)
    (join value.rows _ second (misassigned op at (place_type inside place) value.ty)))

condition : (cond : Judged) → AreCoded cond.rows → AreCoded (left.condition_rows cond)
condition cond are =
    join cond.rows _ are
    (ill (is_some cond.ty && not (left.is_condition cond.ty)) cond.key 402 type_code)

void : (returned : Returned) (state : State) (at : ℕ)
    → AreCoded (left.return_void returned state at).rows
void (Wants ty) state at = ill (not (is_unit ty)) at 402 type_code
void (Open places) state at = tt
void (Gives None) state at = tt
void (Gives (Some ty)) state at = ill (not (is_unit ty)) at 402 type_code

accepted : (state : State) (at : ℕ) (value : Judged) (ty : Ty) → AreCoded value.rows
    → AreCoded (left.accepted_left state at value ty).rows
accepted state at value ty are = join value.rows _ are (refused at value.ty ty)

ill_each : (places : List ℕ) → AreCoded (map (λ at. Ill at 402 None) places)
ill_each [] = tt
ill_each (at ∷ places) = (type_code, ill_each places)

unless : (test : Bool) (rows : List Row) → AreCoded rows
    → AreCoded (if test then [] else rows)
unless true rows are = tt
unless false rows are = are

bare : (places : List ℕ) (ty : Option Ty) → AreCoded (left.bare_rows places ty)
bare places None = tt
bare places (Some ty) = unless (is_unit ty) (map (λ at. Ill at 402 None) places) (ill_each places)

first_value : (state : State) (places : List ℕ) (value : Judged) → AreCoded value.rows
    → AreCoded (left.first_value_left state places value).rows
first_value state places value are = join value.rows _ are (bare places value.ty)

value_of : (returned : Returned) (state : State) (at : ℕ) (value : Judged) → AreCoded value.rows
    → AreCoded (left.return_value returned state at value).rows
value_of (Wants ty) state at value are = accepted state at value ty are
value_of (Open places) state at value are = first_value state places value are
value_of (Gives None) state at value are = are
value_of (Gives (Some ty)) state at value are = accepted state at value ty are

unit : (test : Bool) (state : State) (value : Judged) (ty : Ty) → AreCoded value.rows
    → AreCoded (if test then left.discard_left state value
    else left.accepted_left state value.key value ty).rows
unit true state value ty are = are
unit false state value ty are = accepted state value.key value ty are

result : (returned : Returned) (state : State) (value : Judged) → AreCoded value.rows
    → AreCoded (left.result_left returned state value).rows
result (Wants ty) state value are = unit (is_unit ty) state value ty are
result (Open places) state value are = first_value state places value are
result (Gives ty) state value are = are

plain : (only : Bool) (state : State) (value : Judged) → AreCoded value.rows
    → AreCoded (left.plain_left only state value).rows
plain false state value are = are
plain true state value are = result state.returned state value are

switch : (cases : Option (List CaseShape)) (at : ℕ) (subject : Judged) (heads : List left.Head)
    (otherwise : Bool) (inner : Left) → AreCoded subject.rows → AreCoded inner.rows
    → AreCoded (left.switch_left cases at subject heads otherwise inner).rows
switch cases at subject heads otherwise inner first second =
    join subject.rows _ first
    (join inner.rows _ second (ill_unless_of _ at 405 _ switch_code))

body : (at : ℕ) (l : Left) → AreCoded l.rows → AreCoded (left.body_rows at l)
body at l are = join l.rows _ are (ill (left.lacks_result l) at 406 result_code)

capture : (name : Name) (one : Option Var) → AreCoded (left.capture_rows name one)
capture name None = (name_code, tt)
capture name (Some one) =
    join (meaning_rows name.at (Some (means.Local one.at))) _
    (meanings name.at (Some (means.Local one.at))) (variables name.at one.ty)

module _ (world : World) where
  closed : (s : Setting) (at : ℕ) (mark : Option Name) (captures : List Name)
      (params : List ClosureParam) (l : Left) → AreCoded l.rows
      → AreCoded (left.closed world s at mark captures params l).rows
  closed s at mark captures params l are =
      join (flat_map (λ (name : Name). left.capture_rows name (senses.local s.vars name.id))
      captures) _
      (each (λ (name : Name). left.capture_rows name (senses.local s.vars name.id))
      (λ name. capture name (senses.local s.vars name.id)) captures)
      (join (left.vars_rows (map (left.param_var world) params)) _
      (vars (map (left.param_var world) params))
      (decided_keep IsCoded (λ _ _ _ is. (type_code, is)) _ (left.body_rows at l)
      (body at l are)))

  mutual
    coded_expr : (s : Setting) (m : Bool) (e : Expr) (j : Judged) → is.Judges world s m e j
        → AreCoded j.rows
    coded_expr s m e j (is.int _ _ at value) = (tt, tt)
    coded_expr s m e j (is.bool _ _ at value) = (tt, tt)
    coded_expr s m e j (is.word _ _ name) =
        let sense = senses.sense world s name.id in
        noted name.at (senses.word_types world sense)
        (meaning_rows name.at (senses.word_meaning sense))
        (meanings name.at (senses.word_meaning sense)) (word_types world sense)
    coded_expr s m e j (is.me _ _ at) = noted at (senses.me_types s.owner) [] tt (me_types s.owner)
    coded_expr s m e j (is.member _ _ base name judged d) =
        member_by world judged judged.enum name (coded_expr s false base judged d)
    coded_expr s m e j (is.call _ _ name args passed d) =
        call (call_callee world s name) name.at [] passed
        (word_callee world (senses.sense world s name.id)) tt
        (coded_args s (slots_of (call_callee world s name)) args passed d)
    coded_expr s m e j (is.method _ _ base name args judged passed of_base d) =
        call (method_callee world judged name) name.at (base_rows judged) passed
        (method_by world judged.enum judged.ty name.id)
        (rows_by judged.enum judged.rows (coded_expr s false base judged of_base))
        (coded_args s (slots_of (method_callee world judged name)) args passed d)
    coded_expr s m e j (is.chain _ _ first rest l _ of_first d) =
        coded_links s l rest j d (coded_expr s false first l of_first)
    coded_expr s m e j (is.prefix _ _ op at inner judged d) =
        noted at (operators.prefix_types op judged.ty) judged.rows
        (coded_expr s false inner judged d) (prefix_types op judged.ty)
    coded_expr s m e j (is.await _ _ at inner judged d) =
        noted at (senses.var_types judged.ty) judged.rows (coded_expr s false inner judged d)
        (var_types judged.ty)
    coded_expr s m e j (is.fun _ _ closure closed d) =
        noted closed.at _ closed.rows (coded_closure s closure closed d)
        (fun_types (closed.marked || m) closed.params closed.result)
    coded_expr s m e j (is.spawn _ _ at detached body closed d) =
        noted at (exps.task_types closed.result) closed.rows (coded_closure s body closed d)
        (task_types closed.result)
    coded_expr s m e j (is.yield _ _ at) = (tt, tt)

    coded_args : (s : Setting) (slots : List Slot) (args : List Arg) (p : Passed)
        → is.Passes world s slots args p → AreCoded p.rows
    coded_args s slots args p (is.passes_none _ _) = tt
    coded_args s slots args p (is.passes_one _ _ label value more judged passed d rest) =
        join judged.rows passed.rows (coded_expr s (first_marked slots) value judged d)
        (coded_args s (later slots) more passed rest)

    coded_links : (s : Setting) (l : Judged) (links : List Link) (j : Judged)
        → is.Links world s l links j → AreCoded l.rows → AreCoded j.rows
    coded_links s l links j (is.no_link _ _) are = are
    coded_links s l links j (is.one_link _ _ op at operand more right _ d rest) are =
        coded_links s (infix_judged op at l right) more j rest
        (noted at (operators.infix_types op l.ty right.ty) (l.rows ++ right.rows)
        (join l.rows right.rows are (coded_expr s false operand right d))
        (infix_types op l.ty right.ty))

    coded_closure : (s : Setting) (closure : Closure) (c : Closed) → is.Closes world s closure c
        → AreCoded c.rows
    coded_closure s closure c (is.closes _ at mark captures params result block l d) =
        closed s at mark captures params l
        (coded_block (in_body s.owner false) (closure_state world s captures params result) block
        l d)

    coded_stmt : (i : Inside) (s : State) (x : Stmt) (l : Left) → is.Leaves world i s x l
        → AreCoded l.rows
    coded_stmt i s x l (is.bind _ _ mutable name ty value judged d) =
        bind s mutable name (written world ty) judged
        (coded_expr (setting_of i s) (marked_type (written world ty)) value judged d)
    coded_stmt i s x l (is.assign _ _ at op place value placed judged of_place d) =
        assign i s at op placed judged
        (coded_expr (setting_of i s) false place placed of_place)
        (coded_expr (setting_of i s) (marked_type (place_type i placed)) value judged d)
    coded_stmt i s x l (is.discard _ _ at value judged d) =
        coded_expr (setting_of i s) false value judged d
    coded_stmt i s x l (is.if_of _ _ arms otherwise a last of_arms d) =
        join a.rows last.rows (coded_arms i s arms a of_arms)
        (coded_otherwise false i a.state otherwise last d)
    coded_stmt i s x l (is.while_of _ _ at cond block judged inner of_cond d) =
        join (left.condition_rows judged) inner.rows
        (condition judged (coded_expr (setting_of i s) false cond judged of_cond))
        (coded_block (in_loop i) s block inner d)
    coded_stmt i s x l
        (is.switch _ _ at subject arms otherwise judged armed last of_subject of_arms d) =
        switch (cases_of world judged.ty) at judged armed.heads (is_some otherwise)
        (beside armed.left last) (coded_expr (setting_of i s) false subject judged of_subject)
        (join armed.left.rows last.rows
        (coded_cases (in_switch i) (cases_of world judged.ty) s arms armed of_arms)
        (coded_otherwise true (in_switch i) armed.left.state otherwise last d))
    coded_stmt i s x l (is.return_nothing _ _ at) = void s.returned s at
    coded_stmt i s x l (is.return_of _ _ at value judged d) =
        value_of s.returned s at judged
        (coded_expr (setting_of i s) (marked_result s.returned) value judged d)
    coded_stmt i s x l (is.break_of _ _ at) = ill (not i.leaves) at 408 leave_code
    coded_stmt i s x l (is.continue_of _ _ at) = ill (not i.loops) at 408 leave_code
    coded_stmt i s x l (is.plain _ _ value judged d) =
        plain i.only s judged (coded_expr (setting_of i s) (expects i.only s) value judged d)

    coded_all : (i : Inside) (s : State) (xs : List Stmt) (l : Left) → is.LeavesAll world i s xs l
        → AreCoded l.rows
    coded_all i s xs l (is.no_stmt _ _) = tt
    coded_all i s xs l (is.one_stmt _ _ stmt stmts one last d rest) =
        join one.rows last.rows (coded_stmt i s stmt one d) (coded_all i one.state stmts last rest)

    coded_block : (i : Inside) (s : State) (b : Block) (l : Left) → is.LeavesBlock world i s b l
        → AreCoded l.rows
    coded_block i s b l (is.block _ _ stmts _ d) =
        coded_all (with_only i (is_one stmts)) s stmts l d

    coded_arms : (i : Inside) (s : State) (arms : List IfArm) (l : Left)
        → is.LeavesArms world i s arms l → AreCoded l.rows
    coded_arms i s arms l (is.no_arm _ _) = tt
    coded_arms i s arms l (is.one_arm _ _ at cond block more judged inner last of_cond d rest) =
        let one = left.arm_left s judged inner in
        join one.rows last.rows
        (join (left.condition_rows judged) inner.rows
        (condition judged (coded_expr (setting_of i s) false cond judged of_cond))
        (coded_block (in_branch i) s block inner d))
        (coded_arms i one.state more last rest)

    coded_otherwise : (ends : Bool) (i : Inside) (s : State) (o : Option Block) (l : Left)
        → is.LeavesOtherwise world ends i s o l → AreCoded l.rows
    coded_otherwise ends i s o l (is.absent _ _) = tt
    coded_otherwise ends i s o l (is.absent_default _ _) = tt
    coded_otherwise ends i s o l (is.present _ _ _ block inner d) =
        coded_block (in_branch i) s block inner d

    coded_cases : (i : Inside) (cases : Option (List CaseShape)) (s : State) (arms : List CaseArm)
        (a : Armed) → is.LeavesCases world i cases s arms a → AreCoded a.left.rows
    coded_cases i cases s arms a (is.no_case _ _ _) = tt
    coded_cases i cases s arms a
        (is.one_case _ _ _ name patterns block more inner armed d rest) =
        let head = head_of name patterns in
        let own = left.vars_rows (left.arm_vars head (arm_payload cases name.id)) in
        let one = case_of cases s head inner in
        join one.rows armed.left.rows
        (join own inner.rows (vars (left.arm_vars head (arm_payload cases name.id)))
        (coded_block (in_branch i) (arm_state cases s head) block inner d))
        (coded_cases i cases one.state more armed rest)

  is_coded : (rows : List Row) (row : Row) → AreCoded rows → Contains rows row → IsCoded row
  is_coded rows row are has =
      All-contains IsCoded rows row (All-from_recursion IsCoded rows are) has

  coded_row : (decls : List Decl) (row : Row) → Says world decls row → IsCoded row
  coded_row decls row (of_body made l _ _ d has) =
      is_coded (body_noted world made l) row
      (join (left.vars_rows (params_of world made)) _ (vars (params_of world made))
      (body made.at l
      (coded_block (in_body made.owner made.init) (body_state world made) made.block l d))) has
  coded_row decls row (of_value value judged _ _ d has) =
      is_coded (value_noted value judged) row
      (join judged.rows _
      (coded_expr (value_setting value) (is_marked value.wanted) value.value judged d)
      (refused value.at judged.ty value.wanted)) has

  pub ill_is_coded : (decls : List Decl) (at code : ℕ) → IsIll world decls at code
      → IsTypeCode code
  ill_is_coded decls at code is = coded_row decls (Ill at code is.0) is.1
