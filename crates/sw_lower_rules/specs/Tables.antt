-- What lowering looks up: what a program declares, the types and meanings of its nodes, its
-- isolation and the numbers of its functions.
use Rattle.std.specs.Prelude.{ℕ, ◌+◌, ◌==◌, ◌&&◌, Bool, true, false, List, [], ◌∷◌, map}
use Rattle.std.specs.Prelude.{flat_map, Option, Some, None, if◌then◌else◌, slice_get}
use Rattle.std.specs.List.{filter}
use Rattle.std.specs.Option.{unwrap_or}
use Rattle.sw_tree.specs.declared.decl.Decl.{Decl}
use Rattle.sw_tree.specs.declared.decl.Decl.TheVariants.{Entry, Struct, Enum, Class, Actor}
use Rattle.sw_tree.specs.declared.decl.Decl.TheVariants.{GlobalActor, Func, Global}
use Rattle.sw_tree.specs.declared.decl.PropTree.{PropTree}
use Rattle.sw_types.specs.declared.isolation.CallKind.{CallKind}
use Rattle.sw_types.specs.declared.ty.Ty.{Ty, out-Ty}
use Rattle.sw_types.specs.declared.ty.Ty.TheOpen as layer
use Rattle.sw_types.specs.declared.ty.Ty.TheVariants as types
use Rattle.sw_typing_rules.specs.Worlds.{World, and_then}
use Rattle.sw_isolation_rules.specs.Answers.{Answers}
use Rattle.sw_isolation_rules.specs.Captures.{is_among}
use Rattle.sw_isolation_rules.specs.Lists.{bodies_in, boxes_in, captures_in, kind_with, kinds_in}
use Rattle.sw_isolation_rules.specs.declared.note.BodyIso.{BodyIso}
use Rattle.sw_isolation_rules.specs.declared.note.Capture.{Capture}
use Rattle.sw_isolation_rules.specs.declared.note.Kinded.{Kinded}
use Rattle.sw_isolation_rules.specs.declared.note.Note.{Note}
use Rattle.sw_lower_plans.specs.declared.name.FunctionName.{FunctionName}
use Rattle.sw_lower_code.specs.Whole.{Body}

-- the body with a key, the kind of the call or crossing read with a key, the captures of a closure
-- in order, and whether a variable is kept in a box
pub record Isolation : Type 0 where
  pub body_at : ℕ → Option BodyIso
  pub kind_at : ℕ → Option CallKind
  pub captures_of : ℕ → List Capture
  pub is_boxed : ℕ → Bool

abbrev pub body_with : List BodyIso → ℕ → Option BodyIso
body_with [] key = None
body_with (body ∷ bodies) key = if body.key == key then Some body else body_with bodies key

-- what lists say: the first that says it
abbrev pub isolation_by : List BodyIso → List Kinded → List Capture → List ℕ → Isolation
isolation_by bodies kinds captures boxes = record {
  body_at = body_with bodies;
  kind_at = kind_with kinds;
  captures_of = λ key. filter (λ (one : Capture). one.closure == key) captures;
  is_boxed = is_among boxes;
}

-- what notes say of a program
abbrev pub isolation_in : List Note → Isolation
isolation_in notes =
    isolation_by (bodies_in notes) (kinds_in notes) (captures_in notes) (boxes_in notes)

-- the keys of the properties of each shape, in order
abbrev pub prop_keys : List PropTree → List ℕ
prop_keys props = map (λ (prop : PropTree). prop.word.at) props

abbrev pub shape_keys : Decl → List (List ℕ)
shape_keys (Entry word written at is_async body) = []
shape_keys (Struct word conforms fields funcs) = prop_keys fields ∷ []
shape_keys (Enum word conforms cases funcs) = [] ∷ []
shape_keys (Class written word conforms props inits funcs) = prop_keys props ∷ []
shape_keys (Actor word props inits funcs) = prop_keys props ∷ []
shape_keys (GlobalActor word made) = []
shape_keys (Func func) = []
shape_keys (Global prop) = []

-- the key of a property, by the numbers of its shape and of the property
abbrev pub part_key_in : List Decl → ℕ → ℕ → Option ℕ
part_key_in decls shape number =
    and_then (slice_get (flat_map shape_keys decls) shape) (λ keys. slice_get keys number)

abbrev pub name_of : Body → FunctionName
name_of body = record { key = body.key; getter = body.getter }

abbrev pub is_same : Bool → Bool → Bool
is_same true other = other
is_same false true = false
is_same false false = true

abbrev pub is_named : FunctionName → FunctionName → Bool
is_named one other = (one.key == other.key) && is_same one.getter other.getter

-- the number of a function: its place among the names, counted from this
abbrev pub number_from : ℕ → List FunctionName → FunctionName → Option ℕ
number_from number [] name = None
number_from number (one ∷ more) name =
    if is_named one name then Some number else number_from (number + 1) more name

abbrev pub number_in : List FunctionName → FunctionName → Option ℕ
number_in names name = number_from 0 names name

pub record Tables : Type 0 where
  pub world : World
  pub answers : Answers
  pub isolation : Isolation
  pub part_key : ℕ → ℕ → Option ℕ

-- the function with a key, and the getter of the variable with a key
abbrev pub plain : ℕ → FunctionName
plain key = record { key = key; getter = false }

abbrev pub getter_of : ℕ → FunctionName
getter_of key = record { key = key; getter = true }

-- Typed programs have a type where one is asked for. Elsewhere `Void` stands.
abbrev pub or_void : Option Ty → Ty
or_void ty = unwrap_or ty types.Unit

abbrev pub result_layer : layer.Ty-F Ty → Ty
result_layer (layer.Func sendable params result) = result
result_layer _ = types.Unit

-- the result of a function type
abbrev pub func_result : Option Ty → Ty
func_result None = types.Unit
func_result (Some ty) = result_layer (out-Ty ty)
