-- The types and meanings of the nodes of a program, and its ill nodes.
use Rattle.std.specs.Prelude.{◌≡◌, ℕ, ◌+◌, Bool, true, false, List, [], ◌∷◌, ◌++◌, Option, Some}
use Rattle.std.specs.Prelude.{None, map, flat_map, Contains, MatchOption}
use Rattle.std.specs.Ordering.{is_lt}
use Rattle.sw_tree.specs.declared.decl.Decl.{Decl}
use Rattle.sw_tree.specs.declared.decl.Decl.TheVariants.{Entry, Struct, Enum, Class, Actor}
use Rattle.sw_tree.specs.declared.decl.Decl.TheVariants.{GlobalActor, Func, Global}
use Rattle.sw_tree.specs.declared.decl.FuncTree.{FuncTree}
use Rattle.sw_tree.specs.declared.decl.InitTree.{InitTree}
use Rattle.sw_tree.specs.declared.decl.ParamTree.{ParamTree}
use Rattle.sw_tree.specs.declared.decl.PropTree.{PropTree}
use Rattle.sw_tree.specs.declared.expr.Expr.{Expr}
use Rattle.sw_tree.specs.declared.stmt.Block.{Block}
use Rattle.sw_types.specs.Accepts.{is_marked}
use Rattle.sw_types.specs.declared.ty.Ty.{Ty}
use Rattle.sw_types.specs.declared.ty.Ty.TheVariants as types
use Rattle.sw_decl_words.specs.Placed.{placed_cmp}
use Rattle.sw_decl_words.specs.Shaped.{prop_type, stated_type}
use Rattle.sw_decl_words.specs.TypeWords.{type_of}
use Rattle.sw_decl_words.specs.Words.{shapes_made}
use Rattle.sw_decl_words.specs.declared.placed.Placed.{Placed}
use Rattle.sw_typing_rules.specs.Expressions.{Judged}
use Rattle.sw_typing_rules.specs.Judges.{Judges, LeavesBlock}
use Rattle.sw_typing_rules.specs.Judging.{judge, leave_block}
use Rattle.sw_typing_rules.specs.Statements.{State, Left, in_body, body_rows, refused, vars_rows}
use Rattle.sw_typing_rules.specs.Words.{Setting}
use Rattle.sw_typing_rules.specs.Worlds.{World}
use Rattle.sw_typing_rules.specs.declared.row.Meaning.{Meaning}
use Rattle.sw_typing_rules.specs.declared.row.Row.{Row}
use Rattle.sw_typing_rules.specs.declared.row.Row.TheVariants.{Typed, Means, Ill}
use Rattle.sw_typing_rules.specs.declared.scope.Returned.TheVariants.{Wants}
use Rattle.sw_typing_rules.specs.declared.scope.Var.{Var}

-- a body of a program: its key, the type whose member it is, whether it is that of an initialiser,
-- its parameters, and its result
pub record BodyOf : Type 0 where
  pub at : ℕ
  pub owner : Option ℕ
  pub init : Bool
  pub params : List ParamTree
  pub wanted : Ty
  pub block : Block

-- the first value of a property or a global variable: its word, the type whose property it is, and
-- the type that it goes to
pub record ValueOf : Type 0 where
  pub at : ℕ
  pub owner : Option ℕ
  pub wanted : Ty
  pub value : Expr

abbrev pub func_body : World → Option ℕ → FuncTree → BodyOf
func_body world owner func = record {
  at = func.word.at;
  owner = owner;
  init = false;
  params = func.params;
  wanted = stated_type world.known.top func.result types.Unit;
  block = func.body;
}

abbrev pub init_body : ℕ → InitTree → BodyOf
init_body shape init = record {
  at = init.at;
  owner = Some shape;
  init = true;
  params = init.params;
  wanted = types.Unit;
  block = init.body;
}

abbrev pub entry_body : ℕ → Block → BodyOf
entry_body at block = record {
  at = at;
  owner = None;
  init = false;
  params = [];
  wanted = types.Unit;
  block = block;
}

abbrev pub first_value : World → Option ℕ → PropTree → Option Expr → List ValueOf
first_value world owner prop None = []
first_value world owner prop (Some value) = record {
  at = prop.word.at;
  owner = owner;
  wanted = prop_type world.known owner prop;
  value = value;
} ∷ []

abbrev pub prop_value : World → Option ℕ → PropTree → List ValueOf
prop_value world owner prop = first_value world owner prop prop.value

module _ (world : World) where
  -- the bodies of a declaration, by the number of shapes before it
  unfoldable pub bodies_of : ℕ → Decl → List BodyOf
  bodies_of shape (Entry word written at is_async body) = entry_body at body ∷ []
  bodies_of shape (Struct word conforms fields funcs) = map (func_body world (Some shape)) funcs
  bodies_of shape (Enum word conforms cases funcs) = map (func_body world (Some shape)) funcs
  bodies_of shape (Class written word conforms props inits funcs) =
      map (init_body shape) inits ++ map (func_body world (Some shape)) funcs
  bodies_of shape (Actor word props inits funcs) =
      map (init_body shape) inits ++ map (func_body world (Some shape)) funcs
  bodies_of shape (GlobalActor word made) = []
  bodies_of shape (Func func) = func_body world None func ∷ []
  bodies_of shape (Global global) = []

  -- the first values of a declaration, by the number of shapes before it
  unfoldable pub values_of : ℕ → Decl → List ValueOf
  values_of shape (Entry word written at is_async body) = []
  values_of shape (Struct word conforms fields funcs) = []
  values_of shape (Enum word conforms cases funcs) = []
  values_of shape (Class written word conforms props inits funcs) =
      flat_map (prop_value world (Some shape)) props
  values_of shape (Actor word props inits funcs) = flat_map (prop_value world (Some shape)) props
  values_of shape (GlobalActor word made) = []
  values_of shape (Func func) = []
  values_of shape (Global global) = prop_value world None global

  abbrev pub bodies_from : ℕ → List Decl → List BodyOf
  bodies_from shape [] = []
  bodies_from shape (decl ∷ decls) =
      bodies_of shape decl ++ bodies_from (shape + shapes_made decl) decls

  abbrev pub values_from : ℕ → List Decl → List ValueOf
  values_from shape [] = []
  values_from shape (decl ∷ decls) =
      values_of shape decl ++ values_from (shape + shapes_made decl) decls

  abbrev pub param_var : ParamTree → Var
  param_var param = record {
    name = param.name.id;
    at = param.name.at;
    mutable = false;
    ty = Some (type_of world.known.top param.ty);
  }

  abbrev pub params_of : BodyOf → List Var
  params_of body = map param_var body.params

  abbrev pub body_state : BodyOf → State
  body_state body = record { vars = params_of body; returned = Wants body.wanted }

  -- what is noted of a body, by what its statements leave
  abbrev pub body_noted : BodyOf → Left → List Row
  body_noted body left = vars_rows (params_of body) ++ body_rows body.at left

-- a first value sees no variables
abbrev pub value_setting : ValueOf → Setting
value_setting value = record { owner = value.owner; vars = [] }

-- what is noted of a first value: its type is accepted by the property or the global variable
abbrev pub value_noted : ValueOf → Judged → List Row
value_noted value judged = judged.rows ++ refused value.at judged.ty value.wanted

-- What is said of a node of a program: in a body, or in a first value.
pub data Says (world : World) (decls : List Decl) : Row → Type 0 where
  of_body : (body : BodyOf) (left : Left) (row : Row)
      → Contains (bodies_from world 0 decls) body
      → LeavesBlock world (in_body body.owner body.init) (body_state world body) body.block left
      → Contains (body_noted world body left) row → Says world decls row
  of_value : (value : ValueOf) (judged : Judged) (row : Row)
      → Contains (values_from world 0 decls) value
      → Judges world (value_setting value) (is_marked value.wanted) value.value judged
      → Contains (value_noted value judged) row → Says world decls row

-- the expression, place or variable with this key has the type
abbrev pub HasType : World → List Decl → ℕ → Ty → Type 0
HasType world decls at ty = Says world decls (Typed at ty)

-- the name, member or call with this key has the meaning
abbrev pub HasMeaning : World → List Decl → ℕ → Meaning → Type 0
HasMeaning world decls at meaning = Says world decls (Means at meaning)

-- the node with this key is ill with the code; in a whole body nothing is in doubt any more
abbrev pub IsIll : World → List Decl → ℕ → ℕ → Type 0
IsIll world decls at code = (unless : Option ℕ) × Says world decls (Ill at code unless)

-- the first ill node of a program by position, then by code, where it has one
abbrev pub IsFirstIll : World → List Decl → Option Placed → Type 0
IsFirstIll world decls first =
    MatchOption first ((at code : ℕ) → IsIll world decls at code → ⊥) (λ one.
    IsIll world decls one.at one.code
    × ((at code : ℕ) → IsIll world decls at code
    → is_lt (placed_cmp (record { at = at; code = code }) one) ≡ false))

module _ (world : World) where
  abbrev pub said_of_body : BodyOf → List Row
  said_of_body body =
      body_noted world body
      (leave_block world body.block (in_body body.owner body.init) (body_state world body))

  abbrev pub said_of_value : ValueOf → List Row
  said_of_value value =
      value_noted value
      (judge world value.value (value_setting value) (is_marked value.wanted))

  -- all that is said of the nodes of a program: of its bodies, then of its first values
  abbrev pub said : List Decl → List Row
  said decls =
      flat_map said_of_body (bodies_from world 0 decls)
      ++ flat_map said_of_value (values_from world 0 decls)
