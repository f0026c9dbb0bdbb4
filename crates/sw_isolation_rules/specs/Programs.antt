-- What is noted of a program, and its breaches of isolation.
use Rattle.std.specs.Prelude.{ℕ, ◌+◌, Bool, false, not, ◌&&◌, ◌||◌, List, [], ◌∷◌, ◌++◌, Option}
use Rattle.std.specs.Prelude.{Some, None, is_none, flat_map, slice_get, if◌then◌else◌, Contains}
use Rattle.std.specs.Prelude.{MatchOption}
use Rattle.sw_tree.specs.declared.decl.Decl.{Decl}
use Rattle.sw_tree.specs.declared.decl.Decl.TheVariants.{Entry, Struct, Enum, Class, Actor}
use Rattle.sw_tree.specs.declared.decl.Decl.TheVariants.{GlobalActor, Func, Global}
use Rattle.sw_tree.specs.declared.decl.FuncTree.{FuncTree}
use Rattle.sw_tree.specs.declared.decl.InitTree.{InitTree}
use Rattle.sw_tree.specs.declared.decl.PropTree.{PropTree}
use Rattle.sw_tree.specs.declared.expr.Expr.{Expr}
use Rattle.sw_tree.specs.declared.name.Name.{Name}
use Rattle.sw_tree.specs.declared.stmt.Block.{Block}
use Rattle.sw_types.specs.Sendable.{is_sendable}
use Rattle.sw_types.specs.declared.isolation.CallKind.{CallKind}
use Rattle.sw_types.specs.declared.isolation.Iso.{Iso}
use Rattle.sw_types.specs.declared.shape.Shape.{Shape}
use Rattle.sw_decl_words.specs.Placed.{IsFirstPlaced}
use Rattle.sw_decl_words.specs.Shaped.{written_actor}
use Rattle.sw_decl_words.specs.Words.{shapes_made}
use Rattle.sw_decl_words.specs.declared.placed.Placed.{Placed}
use Rattle.sw_decls.specs.Signatures.{actor_iso}
use Rattle.sw_decls.specs.declared.signature.GlobalVar.{GlobalVar}
use Rattle.sw_decls.specs.declared.signature.Signature.{Signature}
use Rattle.sw_typing_rules.specs.Worlds.{World, item}
use Rattle.sw_isolation_rules.specs.Answers.{Answers, for_some}
use Rattle.sw_isolation_rules.specs.Kinds.{shape_iso, is_isolated}
use Rattle.sw_isolation_rules.specs.Lists.{kinds_in, refusals_in}
use Rattle.sw_isolation_rules.specs.Noting.{see, block_notes, body_note, placed}
use Rattle.sw_isolation_rules.specs.declared.note.Note.{Note}
use Rattle.sw_isolation_rules.specs.declared.uses.Context.{Context}

-- the context of a body: nothing is awaited at its start
abbrev pub context_of : Iso → Bool → Option ℕ → Context
context_of iso is_async owner =
    record { iso = iso; is_async = is_async; awaited = false; owner = owner }

abbrev pub func_context : Signature → Context
func_context func = context_of func.iso func.is_async func.owner

-- A `var` that is isolated has a getter, which is synchronous (SE-0306).
abbrev pub getter_notes : PropTree → Iso → List Note
getter_notes prop iso =
    if prop.mutable && is_isolated iso then body_note prop.word.at iso false ∷ [] else []

-- A global variable that is isolated to no actor must be a `let` whose value is Sendable (SE-0412).
abbrev pub is_shared : World → GlobalVar → Bool
is_shared world global =
    is_none global.actor && (global.mutable || not (is_sendable world.shapes global.ty))

abbrev pub global_refusals : World → GlobalVar → List Placed
global_refusals world global =
    if is_shared world global then placed global.key.at 505 ∷ [] else []

abbrev pub func_note : Signature → Note
func_note func = body_note func.key.at func.iso func.is_async

module _ (world : World) (answers : Answers) where
  -- the function with a key
  unfoldable pub func_at : ℕ → Option Signature
  func_at key = item (world.numbers key) world.funcs

  -- a body, by what its function declares
  abbrev pub declared_body : Block → Signature → List Note
  declared_body body func =
      func_note func ∷ block_notes world answers body (func_context func) []

  -- the body of the function with a key
  unfoldable pub body_notes : ℕ → Block → List Note
  body_notes key body = for_some (func_at key) (declared_body body)

  abbrev pub func_notes : FuncTree → List Note
  func_notes func = body_notes func.word.at func.body

  abbrev pub init_notes : InitTree → List Note
  init_notes init = body_notes init.at init.body

  -- the initialiser that a type has where it writes none
  unfoldable pub default_notes : ℕ → List Note
  default_notes key = for_some (func_at key) (λ func. func_note func ∷ [])

  abbrev pub inits_notes : Name → List InitTree → List Note
  inits_notes word [] = default_notes word.at
  inits_notes word (init ∷ inits) = flat_map init_notes (init ∷ inits)

  -- a first value
  abbrev pub value_notes : Iso → Option ℕ → Option Expr → List Note
  value_notes iso owner None = []
  value_notes iso owner (Some value) =
      (see world answers value).notes (context_of iso false owner) []

  abbrev pub shape_prop : ℕ → PropTree → Shape → List Note
  shape_prop number prop shape =
      getter_notes prop (shape_iso shape)
      ++ value_notes (shape_iso shape) (Some number) prop.value

  -- a property of the type with a number: its first value is given by the initialiser
  unfoldable pub prop_notes : ℕ → PropTree → List Note
  prop_notes number prop = for_some (slice_get world.shapes number) (shape_prop number prop)

  -- a global variable: what gives its first value, and its getter (SE-0316)
  unfoldable pub global_notes : PropTree → List Note
  global_notes prop =
      let iso = actor_iso (written_actor world.known.top prop.written) in
      body_note prop.word.at iso false ∷ getter_notes prop iso ++ value_notes iso None prop.value

  -- the notes of a declaration, where the number of its shape would be this one
  unfoldable pub decl_notes : ℕ → Decl → List Note
  decl_notes number (Entry word written at is_async body) = body_notes at body
  decl_notes number (Struct word conforms fields funcs) = flat_map func_notes funcs
  decl_notes number (Enum word conforms cases funcs) = flat_map func_notes funcs
  decl_notes number (Class written word conforms props inits funcs) =
      flat_map (prop_notes number) props ++ inits_notes word inits ++ flat_map func_notes funcs
  decl_notes number (Actor word props inits funcs) =
      flat_map (prop_notes number) props ++ inits_notes word inits ++ flat_map func_notes funcs
  decl_notes number (GlobalActor word made) = []
  decl_notes number (Func func) = func_notes func
  decl_notes number (Global prop) = global_notes prop

  abbrev pub notes_from : ℕ → List Decl → List Note
  notes_from number [] = []
  notes_from number (decl ∷ decls) =
      decl_notes number decl ++ notes_from (number + shapes_made decl) decls

  -- all that is noted of a program
  abbrev pub noted : List Decl → List Note
  noted decls = notes_from 0 decls

  -- the call or the crossing read with a key has the kind
  abbrev pub HasKind : List Decl → ℕ → CallKind → Type 0
  HasKind decls at kind = Contains (kinds_in (noted decls)) (record { at = at; kind = kind })

  -- the kind of the call or the crossing read with a key, and None where none has it
  abbrev pub IsKindAt : List Decl → ℕ → Option CallKind → Type 0
  IsKindAt decls at found =
      MatchOption found ((kind : CallKind) → HasKind decls at kind → ⊥) (HasKind decls at)

  -- the breaches of isolation, E501 to E505
  abbrev pub refusals : List Decl → List Placed
  refusals decls =
      refusals_in (noted decls) ++ flat_map (global_refusals world) world.globals

  -- the first breach of isolation by position, then by code, where a program has one
  abbrev pub IsFirstRefusal : List Decl → Option Placed → Type 0
  IsFirstRefusal decls first = IsFirstPlaced (refusals decls) first
