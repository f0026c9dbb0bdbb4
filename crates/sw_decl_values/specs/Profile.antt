-- The values of declarations that the language doesn't have (E306): first values that aren't
-- simple, or that leave a type unknown, and statements of an initialiser that don't give one
-- property its simple value.
use Rattle.std.specs.Prelude.{ℕ, Bool, false, ◌&&◌, ◌||◌, ◌==◌, ◌+◌, List, [], ◌∷◌, ◌++◌, Option}
use Rattle.std.specs.Prelude.{Some}
use Rattle.std.specs.Prelude.{None, map, flat_map, is_some, is_none, if◌then◌else◌}
use Rattle.sw_tree.specs.NodeKey.{expr_key, stmt_key}
use Rattle.sw_tree.specs.declared.decl.Decl.{Decl}
use Rattle.sw_tree.specs.declared.decl.Decl.TheVariants.{Entry, Struct, Enum, Class, Actor}
use Rattle.sw_tree.specs.declared.decl.Decl.TheVariants.{GlobalActor, Func, Global}
use Rattle.sw_tree.specs.declared.decl.InitTree.{InitTree}
use Rattle.sw_tree.specs.declared.decl.ParamTree.{ParamTree}
use Rattle.sw_tree.specs.declared.decl.PropTree.{PropTree}
use Rattle.sw_tree.specs.declared.expr.Expr.{Expr}
use Rattle.sw_tree.specs.declared.expr.Expr.TheOpen as layer
use Rattle.sw_tree.specs.declared.name.Name.{Name}
use Rattle.sw_tree.specs.declared.stmt.Stmt.{Stmt, out-Stmt}
use Rattle.sw_tree.specs.declared.type_tree.TypeTree.{TypeTree}
use Rattle.sw_decl_words.specs.Evident.{Meanings, evident}
use Rattle.sw_decl_words.specs.Words.{shapes_made}
use Rattle.sw_decl_words.specs.declared.members.Member.{Member}
use Rattle.sw_decl_words.specs.declared.placed.Placed.{Placed}
use Rattle.sw_decl_names.specs.Repeats.{first_place}
use Rattle.sw_decl_values.specs.Counts.{is_once, times_in}
use Rattle.sw_decl_values.specs.Simple.{is_simple}
use Rattle.sw_decl_values.specs.Values.{StmtLayer, set_by, set_in, without_value}
use Rattle.sw_decl_values.specs.declared.counts.Times.{Times}

-- the breach of a value or a statement outside the profile
abbrev pub outside : ℕ → List Placed
outside at = record { at = at; code = 306 } ∷ []

-- no name is that of a parameter
abbrev pub no_params : ℕ → Option ℕ
no_params = first_place []

-- the names of the parameters
abbrev pub param_names : List ParamTree → List Name
param_names params = map (λ (param : ParamTree). param.name) params

-- the name means this word: it is the first of that name
abbrev pub is_word : Option Member → Name → Bool
is_word None word = false
is_word (Some member) word = member.word.at == word.at

-- a property that has to be given a value, and is given one by exactly one statement
abbrev pub is_filled : (ℕ → Option ℕ) → (ℕ → Option Times) → Option Name → Bool
is_filled wanted given None = false
is_filled wanted given (Some name) = is_some (wanted name.id) && is_once (given name.id)

module _ (known : Meanings) where
  -- a value that isn't simple
  abbrev pub unless_simple : Option ℕ → (ℕ → Option ℕ) → Expr → List Placed
  unless_simple owner params value =
      if is_simple known owner params value then [] else outside (expr_key value)

  -- the type is written, or evident from the value
  abbrev pub is_typed : Option ℕ → Option TypeTree → Expr → Bool
  is_typed owner ty value = is_some ty || is_some (evident known owner value)

  abbrev pub value_found : Option ℕ → (ℕ → Option ℕ) → Option TypeTree → Option Expr → List Placed
  value_found owner params ty None = []
  value_found owner params ty (Some value) =
      if is_simple known owner params value && is_typed owner ty value then []
      else outside (expr_key value)

  -- The first value of a property or a global variable that isn't simple, or from which its type
  -- isn't evident where none is written.
  abbrev pub first_value : Option ℕ → PropTree → List Placed
  first_value owner prop = value_found owner no_params prop.ty prop.value

  abbrev pub wanted_name : ℕ → PropTree → List Name
  wanted_name shape prop =
      if is_none prop.value && is_word (known.members shape prop.word.id) prop.word
      then prop.word ∷ [] else []

  -- the properties that an initialiser has to give values: those without a first value
  abbrev pub wanted_names : ℕ → List PropTree → List Name
  wanted_names shape props = flat_map (wanted_name shape) props

  abbrev pub value_layer : ℕ → (ℕ → Option ℕ) → StmtLayer → List Placed
  value_layer shape params (layer.Assign at operator place value) =
      unless_simple (Some shape) params value
  value_layer shape params _ = []

  -- A statement of an initialiser that isn't `self.p = e` with a property p that has no first value
  -- and is given one by this statement alone, or in which e isn't simple.
  abbrev pub in_stmt : ℕ → (ℕ → Option ℕ) → (ℕ → Option ℕ) → (ℕ → Option Times) → Stmt
      → List Placed
  in_stmt shape params wanted given stmt =
      if is_filled wanted given (set_by stmt) then value_layer shape params (out-Stmt stmt)
      else outside (stmt_key stmt)

  -- the statements of an initialiser of a type with these properties
  abbrev pub in_stmts : ℕ → List PropTree → List ParamTree → List Stmt → List Placed
  in_stmts shape props params stmts =
      flat_map (in_stmt shape (first_place (param_names params))
      (first_place (wanted_names shape props)) (times_in (set_in stmts))) stmts

  -- those of the first initialiser, if there is one
  abbrev pub in_first_init : ℕ → List PropTree → List InitTree → List Placed
  in_first_init shape props [] = []
  in_first_init shape props (init ∷ more) = in_stmts shape props init.params init.body.stmts

  -- the properties and the first initialiser of a class or an actor
  unfoldable pub in_object : ℕ → List PropTree → List InitTree → List Placed
  in_object shape props inits =
      without_value props inits
      ++ (flat_map (first_value (Some shape)) props ++ in_first_init shape props inits)

  -- The breaches of values in a declaration, by the number of shapes before it. A struct's
  -- properties have no first values.
  unfoldable pub values_of : ℕ → Decl → List Placed
  values_of shape (Entry word written at is_async body) = []
  values_of shape (Struct word conforms fields funcs) = []
  values_of shape (Enum word conforms cases funcs) = []
  values_of shape (Class written word conforms props inits funcs) = in_object shape props inits
  values_of shape (Actor word props inits funcs) = in_object shape props inits
  values_of shape (GlobalActor word made) = []
  values_of shape (Func func) = []
  values_of shape (Global global) = first_value None global

  -- the breaches of values in declarations, by the number of shapes before them
  abbrev pub values_from : ℕ → List Decl → List Placed
  values_from shape [] = []
  values_from shape (decl ∷ decls) =
      values_of shape decl ++ values_from (shape + shapes_made decl) decls
