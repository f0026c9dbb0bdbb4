-- What is called, and whether the arguments fit.
use Rattle.std.specs.Prelude.{ℕ, Bool, true, false, ◌&&◌, ◌||◌, ◌==◌, List, [], ◌∷◌, Option, Some}
use Rattle.std.specs.Prelude.{None}
use Rattle.std.specs.Prelude.{map, length, not, is_some, is_none, slice_get, if◌then◌else◌}
use Rattle.std.specs.List.{list_all}
use Rattle.sw_types.specs.declared.shape.CaseShape.{CaseShape}
use Rattle.sw_types.specs.declared.shape.Part.{Part}
use Rattle.sw_types.specs.declared.shape.Shape.{Shape}
use Rattle.sw_types.specs.declared.shape.ShapeKind.{ShapeKind}
use Rattle.sw_types.specs.declared.shape.ShapeKind.TheVariants as kind
use Rattle.sw_types.specs.declared.ty.Ty.{Ty, out-Ty}
use Rattle.sw_types.specs.declared.ty.Ty.TheOpen as layer
use Rattle.sw_types.specs.declared.ty.Ty.TheVariants as types
use Rattle.sw_decl_words.specs.declared.members.Member.{Member}
use Rattle.sw_decl_words.specs.declared.members.Role.{Role}
use Rattle.sw_decl_words.specs.declared.members.Role.TheVariants as role
use Rattle.sw_decl_words.specs.declared.words.Meaning as words
use Rattle.sw_decl_words.specs.declared.words.Meaning.TheVariants as word
use Rattle.sw_decls.specs.declared.signature.GlobalVar.{GlobalVar}
use Rattle.sw_decls.specs.declared.signature.Param.{Param}
use Rattle.sw_decls.specs.declared.signature.Signature.{Signature}
use Rattle.sw_typing_rules.specs.Verdicts.{is_accepted, is_int, is_bool}
use Rattle.sw_typing_rules.specs.declared.verdict.Verdict.{Verdict}
use Rattle.sw_typing_rules.specs.declared.verdict.Verdict.TheVariants.{Has, Fails, Held}
use Rattle.sw_typing_rules.specs.Words.{Sense, Variable, OwnProperty, OwnMethod, OwnCase, Top}
use Rattle.sw_typing_rules.specs.Words.{Printing, Nothing}
use Rattle.sw_typing_rules.specs.declared.found.Found.{Found}
use Rattle.sw_typing_rules.specs.declared.found.Found.TheVariants.{Property, Method, Result}
use Rattle.sw_typing_rules.specs.declared.found.Found.TheVariants.{NoMember}
use Rattle.sw_typing_rules.specs.Worlds.{World, part_at, case_at, and_then}
use Rattle.sw_typing_rules.specs.declared.verdict.Given.{Given}
use Rattle.sw_typing_rules.specs.declared.row.Meaning.{Meaning}
use Rattle.sw_typing_rules.specs.declared.row.Meaning.TheVariants as means

-- what a parameter takes: the id of the label that its argument must have, if any, and its type
pub record Slot : Type 0 where
  pub label : Option ℕ
  pub ty : Ty

abbrev pub unlabelled : Ty → Slot
unlabelled ty = record { label = None; ty = ty }

abbrev pub param_slot : Param → Slot
param_slot param = record { label = param.label; ty = param.ty }

-- a struct is made with all its properties in order
abbrev pub part_slot : Part → Slot
part_slot part = record { label = Some part.name; ty = part.ty }

-- what is called
pub data Callee : Type 0 where
  -- it takes arguments and gives a type
  Takes : Meaning → List Slot → Ty → Callee
  -- what is called has no type
  Untyped : Option Meaning → Callee
  Prints : Callee
  -- it is unknown or can't be called
  Uncallable : ℕ → Callee

abbrev pub slots_of : Callee → List Slot
slots_of (Takes meaning slots result) = slots
slots_of (Untyped meaning) = []
slots_of Prints = []
slots_of (Uncallable code) = []

abbrev pub callee_meaning : Callee → Option Meaning
callee_meaning (Takes meaning slots result) = Some meaning
callee_meaning (Untyped meaning) = meaning
callee_meaning Prints = Some means.Print
callee_meaning (Uncallable code) = None

-- the call of a value: it must have a function type
abbrev pub value_layer : Meaning → ℕ → layer.Ty-F Ty → Callee
value_layer meaning code layer.Int = Uncallable code
value_layer meaning code layer.Bool = Uncallable code
value_layer meaning code layer.Unit = Uncallable code
value_layer meaning code (layer.Named shape) = Uncallable code
value_layer meaning code (layer.Func marked params result) =
    Takes meaning (map unlabelled params) result
value_layer meaning code (layer.Task inner) = Uncallable code

abbrev pub variable_callee : Meaning → Option Ty → Callee
variable_callee meaning None = Untyped (Some meaning)
variable_callee meaning (Some ty) = value_layer meaning 401 (out-Ty ty)

abbrev pub part_callee : Meaning → ℕ → Option Part → Callee
part_callee meaning code None = Uncallable code
part_callee meaning code (Some part) = value_layer meaning code (out-Ty part.ty)

abbrev pub global_callee : Meaning → Option GlobalVar → Callee
global_callee meaning None = Uncallable 401
global_callee meaning (Some global) = value_layer meaning 401 (out-Ty global.ty)

-- a case with a payload is called without labels
abbrev pub payload_callee : ℕ → ℕ → List Ty → Callee
payload_callee shape number [] = Uncallable 407
payload_callee shape number (ty ∷ tys) =
    Takes (means.CaseOf shape number) (map unlabelled (ty ∷ tys)) (types.Named shape)

abbrev pub case_callee : ℕ → ℕ → Option CaseShape → Callee
case_callee shape number None = Uncallable 407
case_callee shape number (Some one) = payload_callee shape number one.payload

abbrev pub struct_callee : ℕ → Option Shape → Callee
struct_callee number None = Uncallable 401
struct_callee number (Some shape) =
    Takes (means.MakeOf number) (map part_slot shape.parts) (types.Named number)

-- a case without a payload is a value
abbrev pub payload_types : ℕ → List Ty → Verdict
payload_types shape [] = Has (types.Named shape)
payload_types shape (ty ∷ tys) = Fails 407

abbrev pub case_types : ℕ → Option CaseShape → Verdict
case_types shape None = Fails 407
case_types shape (Some one) = payload_types shape one.payload

-- the number of the case that a member is
abbrev pub role_number : Role → Option ℕ
role_number (role.Part number) = None
role_number (role.Case number) = Some number
role_number role.Method = None

abbrev pub case_number : Option Member → Option ℕ
case_number None = None
case_number (Some member) = role_number member.role

abbrev pub case_meaning : ℕ → Option ℕ → Option Meaning
case_meaning shape None = None
case_meaning shape (Some number) = Some (means.CaseOf shape number)

abbrev pub signature_callee : Meaning → ℕ → Option Signature → Callee
signature_callee meaning code None = Uncallable code
signature_callee meaning code (Some func) =
    Takes meaning (map param_slot func.params) func.result

module _ (world : World) where
  -- a function by its number
  abbrev pub func_callee : (ℕ → Meaning) → ℕ → Option ℕ → Callee
  func_callee meaning code None = Uncallable code
  func_callee meaning code (Some number) =
      signature_callee (meaning number) code (slice_get world.funcs number)

  abbrev pub method_callee : (ℕ → Meaning) → ℕ → ℕ → Callee
  method_callee meaning code key = func_callee meaning code (world.numbers key)

  -- a class or an actor is made by its initialiser
  abbrev pub init_callee : ℕ → Callee
  init_callee shape =
      func_callee (λ number. means.MakeOf shape) 401
      (and_then (slice_get world.makers shape) world.numbers)

  abbrev pub make_callee : ShapeKind → ℕ → Callee
  make_callee kind.Struct number = struct_callee number (slice_get world.shapes number)
  make_callee kind.Enum number = Uncallable 401
  make_callee kind.Class number = init_callee number
  make_callee kind.Actor number = init_callee number

  abbrev pub top_callee : words.Meaning → Callee
  top_callee (word.Shape made number) = make_callee made number
  top_callee (word.GlobalActor number) = Uncallable 401
  top_callee (word.Func key) = method_callee means.FuncOf 401 key
  top_callee (word.Global number) =
      global_callee (means.GlobalOf number) (slice_get world.globals number)
  top_callee word.Entry = Uncallable 401

  -- what a call by a word calls
  abbrev pub word_callee : Sense → Callee
  word_callee (Variable variable) = variable_callee (means.Local variable.at) variable.ty
  word_callee (OwnProperty shape number) =
      part_callee (means.OwnPart number) 401 (part_at world shape number)
  word_callee (OwnMethod key) = method_callee means.OwnFunc 401 key
  word_callee OwnCase = Uncallable 401
  word_callee (Top meaning) = top_callee meaning
  word_callee Printing = Prints
  word_callee Nothing = Uncallable 401

  -- what a call of a member calls
  abbrev pub found_callee : Found → Callee
  found_callee (Property shape number) =
      part_callee (means.PartOf number) 407 (part_at world shape number)
  found_callee (Method key) = method_callee means.FuncOf 407 key
  found_callee (Result ty) = Uncallable 407
  found_callee NoMember = Uncallable 407

  -- the case of an enum that a name means
  abbrev pub case_in : ℕ → ℕ → Option ℕ
  case_in shape id = case_number (world.known.members shape id)

  abbrev pub enum_callee : ℕ → Option ℕ → Callee
  enum_callee shape None = Uncallable 407
  enum_callee shape (Some number) = case_callee shape number (case_at world shape number)

  abbrev pub enum_types : ℕ → Option ℕ → Verdict
  enum_types shape None = Fails 407
  enum_types shape (Some number) = case_types shape (case_at world shape number)

abbrev pub same_label : Option ℕ → Option ℕ → Bool
same_label None None = true
same_label None (Some id) = false
same_label (Some id) None = false
same_label (Some id) (Some other) = id == other

-- as many arguments as parameters, with their labels
abbrev pub labels_fit : List Slot → List Given → Bool
labels_fit [] [] = true
labels_fit [] (given ∷ more) = false
labels_fit (slot ∷ slots) [] = false
labels_fit (slot ∷ slots) (given ∷ more) =
    same_label slot.label given.label && labels_fit slots more

-- each argument is accepted by its parameter
abbrev pub types_fit : List Slot → List Given → Bool
types_fit [] more = true
types_fit (slot ∷ slots) [] = true
types_fit (slot ∷ slots) (given ∷ more) = is_accepted given.ty slot.ty && types_fit slots more

abbrev pub all_typed : List Given → Bool
all_typed [] = true
all_typed (given ∷ more) = is_some given.ty && all_typed more

abbrev pub printable_type : Option Ty → Bool
printable_type None = false
printable_type (Some ty) = is_int ty || is_bool ty

-- `print` takes one or more arguments without labels, each an Int or a Bool
abbrev pub print_types : List Given → Verdict
print_types given =
    if (length given == 0) || not (list_all (λ (one : Given). is_none one.label) given)
    then Fails 403
    else (if list_all (λ (one : Given). printable_type one.ty) given then Has types.Unit
    else Fails 402)

-- a call whose arguments have types
abbrev pub called : Callee → List Given → Verdict
called (Takes meaning slots result) given =
    if labels_fit slots given
    then (if types_fit slots given then Has result else Fails 402) else Fails 403
called (Untyped meaning) given = Held
called Prints given = print_types given
called (Uncallable code) given = Fails code

-- a call: nothing is said of it where an argument has no type
abbrev pub call_types : Callee → List Given → Verdict
call_types callee given = if all_typed given then called callee given else Held
