-- The bodies of a program that are found by their names. Closures and tasks carry their own.
use Rattle.std.specs.Prelude.{ℕ, ◌+◌, List, [], ◌∷◌, ◌++◌, map, flat_map, Option, Some, None}
use Rattle.std.specs.Prelude.{slice_get, if◌then◌else◌}
use Rattle.sw_tree.specs.declared.decl.Decl.{Decl}
use Rattle.sw_tree.specs.declared.decl.Decl.TheVariants.{Entry, Struct, Enum, Class, Actor}
use Rattle.sw_tree.specs.declared.decl.Decl.TheVariants.{GlobalActor, Func, Global}
use Rattle.sw_tree.specs.declared.decl.FuncTree.{FuncTree}
use Rattle.sw_tree.specs.declared.decl.InitTree.{InitTree}
use Rattle.sw_tree.specs.declared.decl.ParamTree.{ParamTree}
use Rattle.sw_tree.specs.declared.decl.PropTree.{PropTree}
use Rattle.sw_tree.specs.declared.name.Name.{Name}
use Rattle.sw_tree.specs.declared.stmt.Block.{Block}
use Rattle.sw_types.specs.declared.shape.Shape.{Shape}
use Rattle.sw_decl_words.specs.Words.{globals_made, shapes_made}
use Rattle.sw_decls.specs.declared.signature.Signature.{Signature}
use Rattle.sw_isolation_rules.specs.Answers.{for_some}
use Rattle.sw_isolation_rules.specs.Programs.{func_at}
use Rattle.sw_tree_work.specs.Facts.{Facts}
use Rattle.sw_tree_work.specs.Forms.{Given, body_work, in_order}
use Rattle.sw_tree_work.specs.Trees.{block_work, expr_work}
use Rattle.sw_tree_work.specs.Work.{BodyName, Finish, FirstValue, Function, GlobalGetter, LoadGlobal}
use Rattle.sw_tree_work.specs.Work.{LoadPart, New, PartGetter, Read, Return, StoreGlobal, Then}
use Rattle.sw_tree_work.specs.Work.{TreeBody, Work, is_same_name}

-- An initialiser finds what it gives to the properties, in order, and makes the object of that.
abbrev pub init_work : Shape → List Given → ℕ → Work
init_work shape givens number =
    in_order (λ (one : Given). one.read) givens
    (Then (New number shape (map (λ (one : Given). one.name) givens)) Return)

module _ (facts : Facts) where
  -- `self` of a member
  abbrev pub self_of : Option ℕ → List ℕ
  self_of None = []
  self_of (Some number) =
      for_some (slice_get facts.world.shapes number) (λ shape. shape.at ∷ [])

  abbrev pub params_of : List ParamTree → List ℕ
  params_of params = map (λ (param : ParamTree). param.name.at) params

  -- what has a signature
  abbrev pub signed_body : ℕ → (Signature → TreeBody) → List TreeBody
  signed_body key body = for_some (func_at facts.world facts.answers key) (λ func. body func ∷ [])

  abbrev pub body_of : Signature → List ℕ → Work → TreeBody
  body_of func takes work = record {
    name = Function func.key.at;
    iso = func.iso;
    takes = takes;
    work = work;
  }

  -- a function, a method or the entry
  abbrev pub func_body : ℕ → List ParamTree → Block → List TreeBody
  func_body key params block = signed_body key (λ func. body_of func
      (self_of func.owner ++ params_of params)
      (body_work (Some func.result) (block_work facts func.owner block)))

  abbrev pub func_tree_body : FuncTree → List TreeBody
  func_tree_body func = func_body func.word.at func.params func.body

  -- An initialiser: the properties' first values, in order, then what its statements give. A type
  -- that writes no initialiser has one that gives the first values.
  abbrev pub first_given : ℕ → PropTree → List Given
  first_given number prop = for_some prop.value (λ value.
      record { name = prop.word.id; read = (expr_work facts (Some number) value).read } ∷ [])

  abbrev pub init_body : ℕ → ℕ → List PropTree → List ParamTree → List Given → List TreeBody
  init_body key number props params givens =
      for_some (slice_get facts.world.shapes number) (λ shape. signed_body key (λ func.
      body_of func (params_of params)
      (init_work shape (flat_map (first_given number) props ++ givens) number)))

  abbrev pub written_init : ℕ → List PropTree → InitTree → List TreeBody
  written_init number props init =
      init_body init.at number props init.params (block_work facts (Some number) init.body).gives

  abbrev pub inits : ℕ → List PropTree → Name → List InitTree → List TreeBody
  inits number props word [] = init_body word.at number props [] []
  inits number props word (init ∷ more) = flat_map (written_init number props) (init ∷ more)

  -- A getter has the isolation of what it reads.
  abbrev pub part_getter : ℕ → ℕ → PropTree → Shape → TreeBody
  part_getter number index prop shape = record {
    name = PartGetter number index;
    iso = facts.iso_at prop.word.at;
    takes = shape.at ∷ [];
    work = Then (Read shape.at) (Then (LoadPart index) Return);
  }

  abbrev pub part_getters : ℕ → ℕ → List PropTree → List TreeBody
  part_getters number index [] = []
  part_getters number index (prop ∷ props) =
      for_some (slice_get facts.world.shapes number)
      (λ shape. part_getter number index prop shape ∷ [])
      ++ part_getters number (index + 1) props

  abbrev pub global_getter : ℕ → PropTree → TreeBody
  global_getter index prop = record {
    name = GlobalGetter index;
    iso = facts.iso_at prop.word.at;
    takes = [];
    work = Then (LoadGlobal index) Return;
  }

  -- what gives a global variable its first value
  abbrev pub first_value : ℕ → PropTree → List TreeBody
  first_value index prop = for_some prop.value (λ value. record {
    name = FirstValue index;
    iso = facts.iso_at prop.word.at;
    takes = [];
    work = (expr_work facts None value).read (Then (StoreGlobal index) Finish);
  } ∷ [])

  abbrev pub class_bodies : ℕ → List PropTree → Name → List InitTree → List FuncTree
      → List TreeBody
  class_bodies number props word inits_of funcs =
      part_getters number 0 props
      ++ inits number props word inits_of ++ flat_map func_tree_body funcs

  -- the bodies of a declaration, by how many types and global variables stand before it
  abbrev pub decl_bodies : ℕ → ℕ → Decl → List TreeBody
  decl_bodies number index (Entry word written at is_async body) = func_body at [] body
  decl_bodies number index (Struct word conforms fields funcs) = flat_map func_tree_body funcs
  decl_bodies number index (Enum word conforms cases funcs) = flat_map func_tree_body funcs
  decl_bodies number index (Class written word conforms props inits_of funcs) =
      class_bodies number props word inits_of funcs
  decl_bodies number index (Actor word props inits_of funcs) =
      class_bodies number props word inits_of funcs
  decl_bodies number index (GlobalActor word made) = []
  decl_bodies number index (Func func) = func_tree_body func
  decl_bodies number index (Global prop) = first_value index prop ++ global_getter index prop ∷ []

  abbrev pub bodies_from : ℕ → ℕ → List Decl → List TreeBody
  bodies_from number index [] = []
  bodies_from number index (decl ∷ decls) =
      decl_bodies number index decl
      ++ bodies_from (number + shapes_made decl) (index + globals_made decl) decls

-- the body with a name
abbrev pub Bodies : Type 0
Bodies = BodyName → Option TreeBody

abbrev pub body_in : List TreeBody → Bodies
body_in [] name = None
body_in (body ∷ bodies) name =
    if is_same_name body.name name then Some body else body_in bodies name

-- the bodies of a program
unfoldable pub bodies_of : Facts → List Decl → Bodies
bodies_of facts decls = body_in (bodies_from facts 0 0 decls)
