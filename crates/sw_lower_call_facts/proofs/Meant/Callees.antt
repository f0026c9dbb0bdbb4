-- What a call by a word and a call of a member mean.
use Rattle.std.proofs.Common.{ℕ, Bool, true, false, List, [], ◌∷◌, Option, Some, None}
use Rattle.std.proofs.Common.{if◌then◌else◌}
use Rattle.std.proofs.Common.{slice_get}
use Rattle.sw_types.specs.declared.shape.CaseShape.{CaseShape}
use Rattle.sw_types.specs.declared.shape.Part.{Part}
use Rattle.sw_types.specs.declared.shape.Shape.{Shape}
use Rattle.sw_types.specs.declared.shape.ShapeKind.{ShapeKind}
use Rattle.sw_types.specs.declared.shape.ShapeKind.TheVariants as kind
use Rattle.sw_types.specs.declared.ty.Ty.{Ty, out-Ty}
use Rattle.sw_types.specs.declared.ty.Ty.TheOpen as layer
use Rattle.sw_decl_words.specs.declared.words.Meaning as words
use Rattle.sw_decl_words.specs.declared.words.Meaning.TheVariants as word
use Rattle.sw_decls.specs.declared.signature.GlobalVar.{GlobalVar}
use Rattle.sw_decls.specs.declared.signature.Signature.{Signature}
use Rattle.sw_typing_rules.specs.Calls as calls
use Rattle.sw_typing_rules.specs.Calls.{Callee, Slot, Takes, Untyped, Prints, Uncallable}
use Rattle.sw_typing_rules.specs.Calls.{slots_of, callee_meaning}
use Rattle.sw_typing_rules.specs.Expressions as exps
use Rattle.sw_typing_rules.specs.Expressions.{Judged, Closed, Passed, call_judged, infix_judged}
use Rattle.sw_typing_rules.specs.Expressions.{call_callee, method_callee, base_rows, later}
use Rattle.sw_typing_rules.specs.Expressions.{first_marked}
use Rattle.sw_typing_rules.specs.Words as senses
use Rattle.sw_typing_rules.specs.Words.{Setting, Sense, Variable, OwnProperty, OwnMethod, OwnCase}
use Rattle.sw_typing_rules.specs.Words.{Top, Printing, Nothing}
use Rattle.sw_typing_rules.specs.Worlds.{World, part_at, case_at, and_then}
use Rattle.sw_typing_rules.specs.declared.found.Found.{Found}
use Rattle.sw_typing_rules.specs.declared.found.Found.TheVariants.{Property, Method, Result}
use Rattle.sw_typing_rules.specs.declared.found.Found.TheVariants.{NoMember}
use Rattle.sw_typing_rules.specs.declared.row.Meaning.{Meaning}
use Rattle.sw_typing_rules.specs.declared.row.Meaning.TheVariants as means
use Rattle.sw_typing_rules.specs.declared.scope.Var.{Var}
use Rattle.std.proofs.Common.{◌≡◌, refl}
use Rattle.sw_decl_words.specs.declared.members.Member.{Member}
use Rattle.sw_decl_words.specs.declared.members.Role.{Role}
use Rattle.sw_decl_words.specs.declared.members.Role.TheVariants as role
use Rattle.sw_lower_call_facts.specs.Meant.{MeaningSo}
use Rattle.sw_lower_call_facts.specs.Meant.IsFuncKey.{of_top, of_type}
use Rattle.std.proofs.Common.{◌==◌}
use Rattle.sw_lower_call_facts.proofs.Meant.Noted.{IfSo}

module _ (world : World) where
  abbrev pub CalleeSo : Callee → Type 0
  CalleeSo callee = IfSo world (callee_meaning callee)

  value_layer : (meaning : Meaning) (code : ℕ) (ty : layer.Ty-F Ty) → MeaningSo world meaning
      → CalleeSo (calls.value_layer meaning code ty)
  value_layer meaning code layer.Int so = tt
  value_layer meaning code layer.Bool so = tt
  value_layer meaning code layer.Unit so = tt
  value_layer meaning code (layer.Named shape) so = tt
  value_layer meaning code (layer.Func marked params result) so = so
  value_layer meaning code (layer.Task inner) so = tt

  variable_callee : (meaning : Meaning) (ty : Option Ty) → MeaningSo world meaning
      → CalleeSo (calls.variable_callee meaning ty)
  variable_callee meaning None so = so
  variable_callee meaning (Some ty) so = value_layer meaning 401 (out-Ty ty) so

  part_callee : (meaning : Meaning) (code : ℕ) (part : Option Part) → MeaningSo world meaning
      → CalleeSo (calls.part_callee meaning code part)
  part_callee meaning code None so = tt
  part_callee meaning code (Some part) so = value_layer meaning code (out-Ty part.ty) so

  global_callee : (meaning : Meaning) (global : Option GlobalVar) → MeaningSo world meaning
      → CalleeSo (calls.global_callee meaning global)
  global_callee meaning None so = tt
  global_callee meaning (Some global) so = value_layer meaning 401 (out-Ty global.ty) so

  payload_callee : (shape number : ℕ) (payload : List Ty)
      → CalleeSo (calls.payload_callee shape number payload)
  payload_callee shape number [] = tt
  payload_callee shape number (ty ∷ tys) = tt

  case_callee : (shape number : ℕ) (one : Option CaseShape)
      → CalleeSo (calls.case_callee shape number one)
  case_callee shape number None = tt
  case_callee shape number (Some one) = payload_callee shape number one.payload

  struct_callee : (number : ℕ) (shape : Option Shape) → CalleeSo (calls.struct_callee number shape)
  struct_callee number None = tt
  struct_callee number (Some shape) = tt

  signature_callee : (meaning : Meaning) (code : ℕ) (func : Option Signature)
      → MeaningSo world meaning → CalleeSo (calls.signature_callee meaning code func)
  signature_callee meaning code None so = tt
  signature_callee meaning code (Some func) so = so

  func_callee : (meaning : ℕ → Meaning) (code : ℕ) (number : Option ℕ)
      → ((n : ℕ) → number ≡ Some n → MeaningSo world (meaning n))
      → CalleeSo (calls.func_callee world meaning code number)
  func_callee meaning code None so = tt
  func_callee meaning code (Some number) so =
      signature_callee (meaning number) code (slice_get world.funcs number) (so number refl)

  make_callee : (made : ShapeKind) (number : ℕ) → CalleeSo (calls.make_callee world made number)
  make_callee kind.Struct number = struct_callee number (slice_get world.shapes number)
  make_callee kind.Enum number = tt
  make_callee kind.Class number =
      func_callee (λ n. means.MakeOf number) 401
      (and_then (slice_get world.makers number) world.numbers) (λ n found. tt)
  make_callee kind.Actor number =
      func_callee (λ n. means.MakeOf number) 401
      (and_then (slice_get world.makers number) world.numbers) (λ n found. tt)

  top_callee : (id : ℕ) (meaning : words.Meaning) → world.known.top id ≡ Some meaning
      → CalleeSo (calls.top_callee world meaning)
  top_callee id (word.Shape made number) is = make_callee made number
  top_callee id (word.GlobalActor number) is = tt
  top_callee id (word.Func key) is =
      func_callee means.FuncOf 401 (world.numbers key)
      (λ n found. record { key = key; is = of_top id is; number = found })
  top_callee id (word.Global number) is =
      global_callee (means.GlobalOf number) (slice_get world.globals number) tt
  top_callee id word.Entry is = tt

  -- what a word means
  of_nothing : (given : Bool)
      → CalleeSo (calls.word_callee world (if given then Printing else Nothing))
  of_nothing true = tt
  of_nothing false = tt

  of_top_sense : (id : ℕ) (found : Option words.Meaning) → world.known.top id ≡ found
      → CalleeSo (calls.word_callee world (senses.top_sense found id))
  of_top_sense id None is = of_nothing (id == 7)
  of_top_sense id (Some meaning) is = top_callee id meaning is

  of_role : (shape id : ℕ) (member : Member) → world.known.members shape id ≡ Some member
      → (is_role : Role) → member.role ≡ is_role
      → CalleeSo (calls.word_callee world (senses.role_sense shape member.word.at is_role))
  of_role shape id member is (role.Part number) same =
      part_callee (means.OwnPart number) 401 (part_at world shape number) tt
  of_role shape id member is (role.Case number) same = tt
  of_role shape id member is role.Method same =
      func_callee means.OwnFunc 401 (world.numbers member.word.at)
      (λ n found. record {
        key = member.word.at;
        is = of_type shape id member is same refl;
        number = found;
      })

  of_member : (owner : Option ℕ) (id : ℕ) (found : Option Member) (other : Sense)
      → senses.owned world owner id ≡ found → CalleeSo (calls.word_callee world other)
      → CalleeSo (calls.word_callee world (senses.member_sense owner found other))
  of_member None id found other is so = so
  of_member (Some shape) id None other is so = so
  of_member (Some shape) id (Some member) other is so =
      of_role shape id member is member.role refl

  of_local : (found : Option Var) (other : Sense) → CalleeSo (calls.word_callee world other)
      → CalleeSo (calls.word_callee world (senses.local_sense found other))
  of_local None other so = so
  of_local (Some variable) other so =
      variable_callee (means.Local variable.at) variable.ty tt

  pub word_called : (s : Setting) (id : ℕ)
      → CalleeSo (calls.word_callee world (senses.sense world s id))
  word_called s id =
      of_local (senses.local s.vars id) _
      (of_member s.owner id (senses.owned world s.owner id) _ refl
      (of_top_sense id (world.known.top id) refl))

  -- what a member means
  role_called : (shape id : ℕ) (member : Member) → world.known.members shape id ≡ Some member
      → (is_role : Role) → member.role ≡ is_role
      → CalleeSo (calls.found_callee world (senses.role_found shape member.word.at is_role))
  role_called shape id member is (role.Part number) same =
      part_callee (means.PartOf number) 407 (part_at world shape number) tt
  role_called shape id member is (role.Case number) same = tt
  role_called shape id member is role.Method same =
      func_callee means.FuncOf 407 (world.numbers member.word.at)
      (λ n found. record {
        key = member.word.at;
        is = of_type shape id member is same refl;
        number = found;
      })

  member_called : (shape id : ℕ) (found : Option Member) → world.known.members shape id ≡ found
      → CalleeSo (calls.found_callee world (senses.member_found shape found))
  member_called shape id None is = tt
  member_called shape id (Some member) is = role_called shape id member is member.role refl

  of_task : (given : Bool) (inner : Ty)
      → CalleeSo (calls.found_callee world (if given then Result inner else NoMember))
  of_task true inner = tt
  of_task false inner = tt

  layer_called : (ty : layer.Ty-F Ty) (id : ℕ)
      → CalleeSo (calls.found_callee world (senses.found_layer world ty id))
  layer_called layer.Int id = tt
  layer_called layer.Bool id = tt
  layer_called layer.Unit id = tt
  layer_called (layer.Named shape) id =
      member_called shape id (world.known.members shape id) refl
  layer_called (layer.Func marked params result) id = tt
  layer_called (layer.Task inner) id = of_task (id == 8) inner

  value_method : (ty : Option Ty) (id : ℕ) → CalleeSo (exps.value_method world ty id)
  value_method None id = tt
  value_method (Some ty) id = layer_called (out-Ty ty) id

  enum_callee : (shape : ℕ) (number : Option ℕ) → CalleeSo (calls.enum_callee world shape number)
  enum_callee shape None = tt
  enum_callee shape (Some number) = case_callee shape number (case_at world shape number)

  pub method_called : (enum : Option ℕ) (ty : Option Ty) (id : ℕ)
      → CalleeSo (exps.method_by world enum ty id)
  method_called None ty id = value_method ty id
  method_called (Some shape) ty id = enum_callee shape (calls.case_in world shape id)

  -- what a word and a member mean that are read: no function
  top_meant : (meaning : words.Meaning) → IfSo world (senses.top_meaning meaning)
  top_meant (word.Shape made number) = tt
  top_meant (word.GlobalActor number) = tt
  top_meant (word.Func key) = tt
  top_meant (word.Global number) = tt
  top_meant word.Entry = tt

  pub word_meant : (sense : Sense) → IfSo world (senses.word_meaning sense)
  word_meant (Variable variable) = tt
  word_meant (OwnProperty shape number) = tt
  word_meant (OwnMethod key) = tt
  word_meant OwnCase = tt
  word_meant (Top meaning) = top_meant meaning
  word_meant Printing = tt
  word_meant Nothing = tt

  pub found_meant : (found : Found) → IfSo world (senses.found_meaning found)
  found_meant (Property shape number) = tt
  found_meant (Method key) = tt
  found_meant (Result ty) = tt
  found_meant NoMember = tt

  pub case_meant : (shape : ℕ) (number : Option ℕ) → IfSo world (calls.case_meaning shape number)
  case_meant shape None = tt
  case_meant shape (Some number) = tt
