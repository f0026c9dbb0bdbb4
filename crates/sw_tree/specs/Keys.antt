-- The key of each node of a tree: the byte offset of a token of its own.
--   a literal, `self`, `await`, a prefix operator: that token
--   a word that means something: the word
--   a member, a call, a method: the member's or callee's word
--   an operator of a chain, as the chain that ends with its right operand: the operator
--   a closure, also a task's body: its `{`; a task and `Task.yield()`: their `Task`
--   `let` and `var`: the variable's word; an assignment: its operator
--   an `if`: the word of its first arm. The words of its other arms are no nodes; they are listed
--     too, so that they have places of their own.
--   any other statement: its first word
--   an expression as a statement: no node beside the expression
--   a parameter, a pattern with a variable, a word of a capture list: the word
--   a declaration: its word; an initialiser: its `init`; the entry: its `main`
-- Types, labels, attributes and the cases of an enum are no nodes.
use Rattle.std.specs.Prelude.{ℕ, List, [], ◌∷◌, ◌++◌, map, flat_map, option_map, unwrap_or}
use Rattle.sw_tree.specs.Folds.{Steps, fold_expr, fold_stmt, fold_arg, fold_closure, fold_link}
use Rattle.sw_tree.specs.Folds.{fold_block, fold_case_arm, fold_if_arm}
use Rattle.sw_tree.specs.declared.decl.Decl.{Decl}
use Rattle.sw_tree.specs.declared.decl.Decl.TheVariants.{Entry, Struct, Enum, Class, Actor}
use Rattle.sw_tree.specs.declared.decl.Decl.TheVariants.{GlobalActor, Func, Global}
use Rattle.sw_tree.specs.declared.decl.FuncTree.{FuncTree}
use Rattle.sw_tree.specs.declared.decl.InitTree.{InitTree}
use Rattle.sw_tree.specs.declared.decl.ParamTree.{ParamTree}
use Rattle.sw_tree.specs.declared.decl.PropTree.{PropTree}
use Rattle.sw_tree.specs.declared.expr.Arg.{Arg}
use Rattle.sw_tree.specs.declared.expr.Closure.{Closure}
use Rattle.sw_tree.specs.declared.expr.Link.{Link}
use Rattle.sw_tree.specs.declared.stmt.CaseArm.{CaseArm}
use Rattle.sw_tree.specs.declared.stmt.IfArm.{IfArm}
use Rattle.sw_tree.specs.declared.stmt.Stmt.{Stmt}
use Rattle.sw_tree.specs.declared.expr.Expr.{Expr}
use Rattle.sw_tree.specs.declared.expr.Expr.TheOpen as layer
use Rattle.sw_tree.specs.declared.stmt.Block.{Block}
use Rattle.sw_tree.specs.declared.stmt.Pattern.{Pattern}
use Rattle.sw_tree.specs.declared.stmt.Pattern.TheVariants.{Skip, Let}

abbrev pub Keys : Type 0
Keys = List ℕ

abbrev pub joined : List Keys → Keys
joined keys = flat_map (λ more. more) keys

abbrev pub pattern_keys : Pattern → Keys
pattern_keys (Skip at) = []
pattern_keys (Let name) = name.at ∷ []

abbrev pub expr_layer : layer.Expr-F Keys Keys Keys Keys Keys Keys Keys Keys → Keys
expr_layer (layer.Int at value) = at ∷ []
expr_layer (layer.Bool at value) = at ∷ []
expr_layer (layer.Use name) = name.at ∷ []
expr_layer (layer.Me at) = at ∷ []
expr_layer (layer.Member base name) = name.at ∷ base
expr_layer (layer.Call name args) = name.at ∷ joined args
expr_layer (layer.Method base name args) = name.at ∷ base ++ joined args
expr_layer (layer.Chain first rest) = first ++ joined rest
expr_layer (layer.Prefix op at inner) = at ∷ inner
expr_layer (layer.Await at inner) = at ∷ inner
expr_layer (layer.Fun closure) = closure
expr_layer (layer.Spawn at detached body) = at ∷ body
expr_layer (layer.Yield at) = at ∷ []

abbrev pub stmt_layer : layer.Stmt-F Keys Keys Keys Keys Keys Keys Keys Keys → Keys
stmt_layer (layer.Bind mutable name ty value) = name.at ∷ value
stmt_layer (layer.Assign at op place value) = at ∷ place ++ value
stmt_layer (layer.Discard at value) = at ∷ value
stmt_layer (layer.If arms otherwise) = joined arms ++ unwrap_or otherwise []
stmt_layer (layer.While at cond body) = at ∷ cond ++ body
stmt_layer (layer.Switch at subject arms otherwise) =
    at ∷ subject ++ joined arms ++ unwrap_or otherwise []
stmt_layer (layer.Return at value) = at ∷ unwrap_or value []
stmt_layer (layer.Break at) = at ∷ []
stmt_layer (layer.Continue at) = at ∷ []
stmt_layer (layer.Plain value) = value

abbrev pub closure_layer : layer.Closure-F Keys Keys Keys Keys Keys Keys Keys Keys → Keys
closure_layer closure =
    closure.at ∷ map (λ word. word.at) closure.captures
    ++ map (λ param. param.name.at) closure.params ++ closure.body

abbrev pub key_steps : Steps
key_steps = record {
  E = Keys;
  S = Keys;
  A = Keys;
  C = Keys;
  L = Keys;
  B = Keys;
  K = Keys;
  I = Keys;
  expr = expr_layer;
  stmt = stmt_layer;
  arg = λ arg. arg.value;
  closure = closure_layer;
  link = λ link. link.at ∷ link.operand;
  block = λ block. joined block.stmts;
  case_arm = λ arm. flat_map pattern_keys arm.patterns ++ arm.body;
  if_arm = λ arm. arm.at ∷ arm.cond ++ arm.body;
}

-- the keys of a part of a tree and of all that it holds
unfoldable pub expr_keys : Expr → Keys
expr_keys = fold_expr key_steps

unfoldable pub stmt_keys : Stmt → Keys
stmt_keys = fold_stmt key_steps

unfoldable pub arg_keys : Arg → Keys
arg_keys = fold_arg key_steps

unfoldable pub closure_keys : Closure → Keys
closure_keys = fold_closure key_steps

unfoldable pub link_keys : Link → Keys
link_keys = fold_link key_steps

unfoldable pub block_keys : Block → Keys
block_keys = fold_block key_steps

unfoldable pub case_arm_keys : CaseArm → Keys
case_arm_keys = fold_case_arm key_steps

unfoldable pub if_arm_keys : IfArm → Keys
if_arm_keys = fold_if_arm key_steps

abbrev pub params_keys : List ParamTree → Keys
params_keys params = map (λ param. param.name.at) params

unfoldable pub func_keys : FuncTree → Keys
func_keys func = func.word.at ∷ params_keys func.params ++ block_keys func.body

unfoldable pub prop_keys : PropTree → Keys
prop_keys prop = prop.word.at ∷ unwrap_or (option_map expr_keys prop.value) []

unfoldable pub init_keys : InitTree → Keys
init_keys init = init.at ∷ params_keys init.params ++ block_keys init.body

unfoldable pub decl_keys : Decl → Keys
decl_keys (Entry word written at is_async body) = at ∷ block_keys body
decl_keys (Struct word conforms fields funcs) =
    word.at ∷ flat_map prop_keys fields ++ flat_map func_keys funcs
decl_keys (Enum word conforms cases funcs) = word.at ∷ flat_map func_keys funcs
decl_keys (Class written word conforms props inits funcs) =
    word.at ∷ flat_map prop_keys props ++ flat_map init_keys inits ++ flat_map func_keys funcs
decl_keys (Actor word props inits funcs) =
    word.at ∷ flat_map prop_keys props ++ flat_map init_keys inits ++ flat_map func_keys funcs
decl_keys (GlobalActor word made) = word.at ∷ []
decl_keys (Func func) = func_keys func
decl_keys (Global prop) = prop_keys prop

-- the keys of a program's declarations and of all that they hold
unfoldable pub keys_of : List Decl → Keys
keys_of decls = flat_map decl_keys decls
