-- How keys tell which variables are declared around a closure and which in it. A variable that is
-- declared in a closure has a key above the closure's. One that is declared around it and used in
-- it has a key below. So a variable that a closure uses is an outer one exactly where its key is
-- less than the closure's. Nothing is said of variables that the closure doesn't use.
--
-- A word that is called or stands alone may mean a variable; so does a word of a capture list. It
-- is free in a tree if no declaration of the tree declares a variable of its name there.
use Rattle.std.specs.Prelude.{ℕ, Bool, not, ◌||◌, ◌<◌, ◌==◌, List, [], ◌∷◌, ◌++◌, Option}
use Rattle.std.specs.Prelude.{All, map, flat_map, option_map, unwrap_or, if◌then◌else◌}
use Rattle.std.specs.List.{filter, list_any}
use Rattle.sw_tree.specs.Folds.{Steps, fold_expr, fold_block}
use Rattle.sw_tree.specs.Keys.{Keys, func_keys, init_keys, prop_keys}
use Rattle.sw_tree.specs.declared.decl.Decl.{Decl}
use Rattle.sw_tree.specs.declared.decl.Decl.TheVariants.{Entry, Struct, Enum, Class, Actor}
use Rattle.sw_tree.specs.declared.decl.Decl.TheVariants.{GlobalActor, Func, Global}
use Rattle.sw_tree.specs.declared.decl.FuncTree.{FuncTree}
use Rattle.sw_tree.specs.declared.decl.InitTree.{InitTree}
use Rattle.sw_tree.specs.declared.decl.ParamTree.{ParamTree}
use Rattle.sw_tree.specs.declared.decl.PropTree.{PropTree}
use Rattle.sw_tree.specs.declared.expr.Expr.{Expr}
use Rattle.sw_tree.specs.declared.expr.Expr.TheOpen as layer
use Rattle.sw_tree.specs.declared.name.Name.{Name}
use Rattle.sw_tree.specs.declared.stmt.Block.{Block}
use Rattle.sw_tree.specs.declared.stmt.Pattern.{Pattern}
use Rattle.sw_tree.specs.declared.stmt.Pattern.TheVariants.{Skip, Let}

-- a free word: the id of its name, and the keys of those closures of the tree that it stands in
pub record Word : Type 0 where
  pub id : ℕ
  pub closures : Keys

-- a key, and one that it has to be less than
abbrev pub Pair : Type 0
Pair = ℕ × ℕ

-- a tree's free words, the keys of the variables that are declared in it, at any depth, and which
-- keys have to be less than which others
pub record Scoped : Type 0 where
  pub free : List Word
  pub declared : Keys
  pub pairs : List Pair

abbrev pub nothing : Scoped
nothing = record { free = []; declared = []; pairs = [] }

abbrev pub both : Scoped → Scoped → Scoped
both one other = record {
  free = one.free ++ other.free;
  declared = one.declared ++ other.declared;
  pairs = one.pairs ++ other.pairs;
}

abbrev pub each : List Scoped → Scoped
each [] = nothing
each (one ∷ more) = both one (each more)

abbrev pub maybe : Option Scoped → Scoped
maybe scoped = unwrap_or scoped nothing

abbrev pub free_word : Name → Word
free_word name = record { id = name.id; closures = [] }

abbrev pub using : Name → Scoped
using name = record { free = free_word name ∷ []; declared = []; pairs = [] }

-- a key before others
abbrev pub before : ℕ → Keys → List Pair
before key others = map (λ other. (key, other)) others

abbrev pub is_of : Name → Word → Bool
is_of name word = name.id == word.id

-- A variable is declared before the closures that its words stand in.
abbrev pub before_word : Name → Word → List Pair
before_word name word = if is_of name word then before name.at word.closures else []

abbrev pub before_words : List Word → Name → List Pair
before_words words name = flat_map (before_word name) words

abbrev pub is_of_any : List Name → Word → Bool
is_of_any names word = list_any (λ name. is_of name word) names

-- Where variables are declared for this. A word that a closure lists means in it what it means
-- around, whatever the closure's parameters are.
abbrev pub declaring : List Name → List Name → Scoped → Scoped
declaring names listed inside = record {
  free = filter (λ word. is_of_any listed word || not (is_of_any names word)) inside.free;
  declared = map (λ (name : Name). name.at) names ++ inside.declared;
  pairs = flat_map (before_words inside.free) names ++ inside.pairs;
}

abbrev pub within : ℕ → Word → Word
within closure word = record word { closures = closure ∷ word.closures }

-- a closure with a key and these words in its list, around its parameters and its block
abbrev pub closing : ℕ → List Name → Scoped → Scoped
closing at captures inside = record {
  free = map (within at) (map free_word captures ++ inside.free);
  declared = inside.declared;
  pairs = before at inside.declared ++ inside.pairs;
}

-- a statement, and the variables that it declares for the statements after it
pub record Stated : Type 0 where
  pub names : List Name
  pub inside : Scoped

abbrev pub stated : Scoped → Stated
stated inside = record { names = []; inside = inside }

abbrev pub sequence : List Stated → Scoped
sequence [] = nothing
sequence (one ∷ more) = both one.inside (declaring one.names [] (sequence more))

abbrev pub pattern_names : Pattern → List Name
pattern_names (Skip at) = []
pattern_names (Let name) = name ∷ []

abbrev pub expr_layer : layer.Expr-F Scoped Stated Scoped Scoped Scoped Scoped Scoped Scoped
    → Scoped
expr_layer (layer.Int at value) = nothing
expr_layer (layer.Bool at value) = nothing
expr_layer (layer.Use name) = using name
expr_layer (layer.Me at) = nothing
expr_layer (layer.Member base name) = base
expr_layer (layer.Call name args) = both (using name) (each args)
expr_layer (layer.Method base name args) = both base (each args)
expr_layer (layer.Chain first rest) = both first (each rest)
expr_layer (layer.Prefix op at inner) = inner
expr_layer (layer.Await at inner) = inner
expr_layer (layer.Fun closure) = closure
expr_layer (layer.Spawn at detached body) = body
expr_layer (layer.Yield at) = nothing

abbrev pub stmt_layer : layer.Stmt-F Scoped Stated Scoped Scoped Scoped Scoped Scoped Scoped
    → Stated
stmt_layer (layer.Bind mutable name ty value) = record { names = name ∷ []; inside = value }
stmt_layer (layer.Assign at op place value) = stated (both place value)
stmt_layer (layer.Discard at value) = stated value
stmt_layer (layer.If arms otherwise) = stated (both (each arms) (maybe otherwise))
stmt_layer (layer.While at cond body) = stated (both cond body)
stmt_layer (layer.Switch at subject arms otherwise) =
    stated (both (both subject (each arms)) (maybe otherwise))
stmt_layer (layer.Return at value) = stated (maybe value)
stmt_layer (layer.Break at) = stated nothing
stmt_layer (layer.Continue at) = stated nothing
stmt_layer (layer.Plain value) = stated value

abbrev pub closure_layer : layer.Closure-F Scoped Stated Scoped Scoped Scoped Scoped Scoped Scoped
    → Scoped
closure_layer closure =
    closing closure.at closure.captures
    (declaring (map (λ param. param.name) closure.params) closure.captures closure.body)

abbrev pub scope_steps : Steps
scope_steps = record {
  E = Scoped;
  S = Stated;
  A = Scoped;
  C = Scoped;
  L = Scoped;
  B = Scoped;
  K = Scoped;
  I = Scoped;
  expr = expr_layer;
  stmt = stmt_layer;
  arg = λ arg. arg.value;
  closure = closure_layer;
  link = λ link. link.operand;
  block = λ block. sequence block.stmts;
  case_arm = λ arm. declaring (flat_map pattern_names arm.patterns) [] arm.body;
  if_arm = λ arm. both arm.cond arm.body;
}

unfoldable pub expr_scoped : Expr → Scoped
expr_scoped = fold_expr scope_steps

unfoldable pub block_scoped : Block → Scoped
block_scoped = fold_block scope_steps

-- a body with its parameters
abbrev pub body_pairs : List ParamTree → Block → List Pair
body_pairs params body =
    (declaring (map (λ (param : ParamTree). param.name) params) [] (block_scoped body)).pairs

abbrev pub func_pairs : FuncTree → List Pair
func_pairs func = body_pairs func.params func.body

abbrev pub init_pairs : InitTree → List Pair
init_pairs init = body_pairs init.params init.body

abbrev pub prop_pairs : PropTree → List Pair
prop_pairs prop = (maybe (option_map expr_scoped prop.value)).pairs

-- `self` is the variable whose declaration is the type's word: it stands before all members.
abbrev pub type_pairs : Name → List PropTree → List InitTree → List FuncTree → List Pair
type_pairs word props inits funcs =
    before word.at
    (flat_map prop_keys props ++ flat_map init_keys inits ++ flat_map func_keys funcs)
    ++ flat_map prop_pairs props ++ flat_map init_pairs inits ++ flat_map func_pairs funcs

abbrev pub decl_pairs : Decl → List Pair
decl_pairs (Entry word written at is_async body) = (block_scoped body).pairs
decl_pairs (Struct word conforms fields funcs) = type_pairs word fields [] funcs
decl_pairs (Enum word conforms cases funcs) = type_pairs word [] [] funcs
decl_pairs (Class written word conforms props inits funcs) = type_pairs word props inits funcs
decl_pairs (Actor word props inits funcs) = type_pairs word props inits funcs
decl_pairs (GlobalActor word made) = []
decl_pairs (Func func) = func_pairs func
decl_pairs (Global prop) = prop_pairs prop

-- The first key of each of these is less than the second.
abbrev pub AreLess : List Pair → Type 0
AreLess pairs = All (λ pair. pair.0 < pair.1) pairs

-- In a program keys tell the variables around each closure from those in it.
abbrev pub AreScoped : List Decl → Type 0
AreScoped decls = AreLess (flat_map decl_pairs decls)
