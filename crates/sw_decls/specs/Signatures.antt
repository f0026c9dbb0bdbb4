-- The functions, global variables and global actors of a program.
use Rattle.std.specs.Prelude.{ℕ, Bool, false, List, [], ◌∷◌, ◌++◌, Option, Some, None, map}
use Rattle.std.specs.Prelude.{◌+◌, ◌==◌, length, if◌then◌else◌}
use Rattle.sw_tree.specs.Names.{main_id}
use Rattle.sw_tree.specs.declared.decl.Decl.{Decl}
use Rattle.sw_tree.specs.declared.decl.Decl.TheVariants.{Entry, Struct, Enum, Class, Actor}
use Rattle.sw_tree.specs.declared.decl.Decl.TheVariants.{GlobalActor, Func, Global}
use Rattle.sw_tree.specs.declared.decl.FuncTree.{FuncTree}
use Rattle.sw_tree.specs.declared.decl.InitTree.{InitTree}
use Rattle.sw_tree.specs.declared.decl.ParamTree.{ParamTree}
use Rattle.sw_tree.specs.declared.decl.Written.{Written}
use Rattle.sw_tree.specs.declared.decl.Written.TheVariants.{Absent, At, Nonisolated, Concurrent}
use Rattle.sw_tree.specs.declared.decl.Written.TheVariants.{Nonsending}
use Rattle.sw_tree.specs.declared.name.Name.{Name}
use Rattle.sw_types.specs.declared.isolation.Iso.{Iso}
use Rattle.sw_types.specs.declared.isolation.Iso.TheVariants as iso
use Rattle.sw_types.specs.declared.ty.Ty.TheVariants as types
use Rattle.sw_decl_words.specs.Evident.{Meanings}
use Rattle.sw_decl_words.specs.Shaped.{prop_type, stated_type, written_actor}
use Rattle.sw_decl_words.specs.TypeWords.{type_of}
use Rattle.sw_decl_words.specs.Words.{shapes_made}
use Rattle.sw_decls.specs.declared.signature.AsyncDefault.{AsyncDefault}
use Rattle.sw_decls.specs.declared.signature.AsyncDefault.TheVariants as default
use Rattle.sw_decls.specs.declared.signature.GlobalVar.{GlobalVar}
use Rattle.sw_decls.specs.declared.signature.Param.{Param}
use Rattle.sw_decls.specs.declared.signature.Signature.{Signature}
use Rattle.sw_decl_words.specs.declared.words.Meaning.{Meaning}

-- a global actor's isolation, or none
abbrev pub actor_iso : Option ℕ → Iso
actor_iso None = iso.Free
actor_iso (Some number) = iso.Global number

abbrev pub async_iso : AsyncDefault → Bool → Iso
async_iso default.Concurrent is_async = iso.Free
async_iso default.Caller false = iso.Free
async_iso default.Caller _ = iso.Caller

-- what the default makes of an asynchronous function that is isolated to no actor
abbrev pub with_default : AsyncDefault → Bool → Iso → Iso
with_default rule is_async iso.Free = async_iso rule is_async
with_default rule is_async iso.Own = iso.Own
with_default rule is_async (iso.Global number) = iso.Global number
with_default rule is_async iso.Caller = iso.Caller

abbrev pub label_id : Option Name → Option ℕ
label_id None = None
label_id (Some name) = Some name.id

module _ (known : ℕ → Option Meaning) where
  -- The isolation of a function (SE-0306, SE-0313, SE-0316, SE-0461): what is written, or else that
  -- of the type it is a method of. `@concurrent` keeps it from the default.
  abbrev pub func_iso : AsyncDefault → Iso → Bool → Written → Iso
  func_iso rule owner is_async Absent = with_default rule is_async owner
  func_iso rule owner is_async (At name) =
      with_default rule is_async (actor_iso (written_actor known (At name)))
  func_iso rule owner is_async Nonisolated = with_default rule is_async iso.Free
  func_iso rule owner is_async Concurrent = iso.Free
  func_iso rule owner is_async Nonsending = iso.Caller

  abbrev pub param_of : ParamTree → Param
  param_of param = record {
    label = label_id param.label;
    name = param.name;
    sending = param.sending;
    ty = type_of known param.ty;
  }

  abbrev pub func_of : AsyncDefault → Option ℕ → Iso → FuncTree → Signature
  func_of rule owner isolation func = record {
    key = func.word;
    owner = owner;
    iso = func_iso rule isolation func.is_async func.written;
    is_async = func.is_async;
    params = map param_of func.params;
    result = stated_type known func.result types.Unit;
    sends = func.sends;
  }

  -- an initialiser, which is synchronous and gives the type
  abbrev pub init_of : Name → ℕ → Iso → List ParamTree → Signature
  init_of key number isolation params = record {
    key = key;
    owner = Some number;
    iso = isolation;
    is_async = false;
    params = map param_of params;
    result = types.Named number;
    sends = false;
  }

  -- the initialisers of a class or an actor: without a written one the default one has its word
  abbrev pub inits_of : Name → ℕ → Iso → List InitTree → List Signature
  inits_of word number isolation inits =
      (if length inits == 0 then init_of word number isolation [] ∷ [] else [])
      ++ map (λ (one : InitTree). init_of (record { at = one.at; id = word.id }) number isolation
      one.params) inits

  -- the functions of a declaration, by the number of shapes before it
  unfoldable pub funcs_of : AsyncDefault → ℕ → Decl → List Signature
  funcs_of rule number (Entry word written at is_async body) = record {
    key = record { at = at; id = main_id };
    owner = None;
    iso = actor_iso (written_actor known written);
    is_async = is_async;
    params = [];
    result = types.Unit;
    sends = false;
  } ∷ []
  funcs_of rule number (Struct word conforms fields funcs) =
      map (func_of rule (Some number) iso.Free) funcs
  funcs_of rule number (Enum word conforms cases funcs) =
      map (func_of rule (Some number) iso.Free) funcs
  funcs_of rule number (Class written word conforms props inits funcs) =
      inits_of word number (actor_iso (written_actor known written)) inits
      ++ map (func_of rule (Some number) (actor_iso (written_actor known written))) funcs
  funcs_of rule number (Actor word props inits funcs) =
      inits_of word number iso.Own inits ++ map (func_of rule (Some number) iso.Own) funcs
  funcs_of rule number (GlobalActor word made) = []
  funcs_of rule number (Func func) = func_of rule None iso.Free func ∷ []
  funcs_of rule number (Global global) = []

  -- the functions of declarations, by the number of shapes before them
  abbrev pub funcs_from : AsyncDefault → ℕ → List Decl → List Signature
  funcs_from rule number [] = []
  funcs_from rule number (decl ∷ decls) =
      funcs_of rule number decl ++ funcs_from rule (number + shapes_made decl) decls

module _ (known : Meanings) where
  abbrev pub global_of : Decl → List GlobalVar
  global_of (Entry word written at is_async body) = []
  global_of (Struct word conforms fields funcs) = []
  global_of (Enum word conforms cases funcs) = []
  global_of (Class written word conforms props inits funcs) = []
  global_of (Actor word props inits funcs) = []
  global_of (GlobalActor word made) = []
  global_of (Func func) = []
  global_of (Global global) = record {
    key = global.word;
    mutable = global.mutable;
    actor = written_actor known.top global.written;
    ty = prop_type known None global;
  } ∷ []
