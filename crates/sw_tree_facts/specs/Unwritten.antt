-- Of what no text writes, two forms, as a list of keys, which is empty for the tree of a text: the
-- key of each parameter of the body of a task, since a task takes nothing; and a 0 for each chain
-- without an operator, which has no key of its own.
use Rattle.std.specs.Prelude.{◌≡◌, List, [], ◌∷◌, ◌++◌, map, flat_map, option_map, unwrap_or}
use Rattle.sw_tree.specs.Folds.{Steps, fold_block, fold_expr}
use Rattle.sw_tree.specs.Keys.{Keys, joined}
use Rattle.sw_tree.specs.declared.decl.Decl.{Decl}
use Rattle.sw_tree.specs.declared.decl.Decl.TheVariants.{Entry, Struct, Enum, Class, Actor}
use Rattle.sw_tree.specs.declared.decl.Decl.TheVariants.{GlobalActor, Func, Global}
use Rattle.sw_tree.specs.declared.decl.FuncTree.{FuncTree}
use Rattle.sw_tree.specs.declared.decl.InitTree.{InitTree}
use Rattle.sw_tree.specs.declared.decl.PropTree.{PropTree}
use Rattle.sw_tree.specs.declared.expr.Expr.{Expr}
use Rattle.sw_tree.specs.declared.expr.Expr.TheOpen as layer
use Rattle.sw_tree.specs.declared.stmt.Block.{Block}

-- a closure or the body of a task: the keys of its parameters, and what can't be written in it
pub record ClosureBody : Type 0 where
  pub params : Keys
  pub inside : Keys

-- what can't be written of a chain with these operators: a 0 where there are none
abbrev pub bare : List Keys → Keys
bare [] = 0 ∷ []
bare (link ∷ more) = []

abbrev pub expr_layer : layer.Expr-F Keys Keys Keys ClosureBody Keys Keys Keys Keys → Keys
expr_layer (layer.Int at value) = []
expr_layer (layer.Bool at value) = []
expr_layer (layer.Use name) = []
expr_layer (layer.Me at) = []
expr_layer (layer.Member base name) = base
expr_layer (layer.Call name args) = joined args
expr_layer (layer.Method base name args) = base ++ joined args
expr_layer (layer.Chain first rest) = first ++ joined rest ++ bare rest
expr_layer (layer.Prefix op at inner) = inner
expr_layer (layer.Await at inner) = inner
expr_layer (layer.Fun closure) = closure.inside
expr_layer (layer.Spawn at detached body) = body.params ++ body.inside
expr_layer (layer.Yield at) = []

abbrev pub stmt_layer : layer.Stmt-F Keys Keys Keys ClosureBody Keys Keys Keys Keys → Keys
stmt_layer (layer.Bind mutable name ty value) = value
stmt_layer (layer.Assign at op place value) = place ++ value
stmt_layer (layer.Discard at value) = value
stmt_layer (layer.If arms otherwise) = joined arms ++ unwrap_or otherwise []
stmt_layer (layer.While at cond body) = cond ++ body
stmt_layer (layer.Switch at subject arms otherwise) =
    subject ++ joined arms ++ unwrap_or otherwise []
stmt_layer (layer.Return at value) = unwrap_or value []
stmt_layer (layer.Break at) = []
stmt_layer (layer.Continue at) = []
stmt_layer (layer.Plain value) = value

abbrev pub closure_layer : layer.Closure-F Keys Keys Keys ClosureBody Keys Keys Keys Keys
    → ClosureBody
closure_layer closure = record {
  params = map (λ param. param.name.at) closure.params;
  inside = closure.body;
}

abbrev pub unwritten_steps : Steps
unwritten_steps = record {
  E = Keys;
  S = Keys;
  A = Keys;
  C = ClosureBody;
  L = Keys;
  B = Keys;
  K = Keys;
  I = Keys;
  expr = expr_layer;
  stmt = stmt_layer;
  arg = λ arg. arg.value;
  closure = closure_layer;
  link = λ link. link.operand;
  block = λ block. joined block.stmts;
  case_arm = λ arm. arm.body;
  if_arm = λ arm. arm.cond ++ arm.body;
}

unfoldable pub expr_unwritten : Expr → Keys
expr_unwritten = fold_expr unwritten_steps

unfoldable pub block_unwritten : Block → Keys
block_unwritten = fold_block unwritten_steps

abbrev pub func_unwritten : FuncTree → Keys
func_unwritten func = block_unwritten func.body

abbrev pub init_unwritten : InitTree → Keys
init_unwritten init = block_unwritten init.body

abbrev pub prop_unwritten : PropTree → Keys
prop_unwritten prop = unwrap_or (option_map expr_unwritten prop.value) []

abbrev pub decl_unwritten : Decl → Keys
decl_unwritten (Entry word written at is_async body) = block_unwritten body
decl_unwritten (Struct word conforms fields funcs) =
    flat_map prop_unwritten fields ++ flat_map func_unwritten funcs
decl_unwritten (Enum word conforms cases funcs) = flat_map func_unwritten funcs
decl_unwritten (Class written word conforms props inits funcs) =
    flat_map prop_unwritten props ++ flat_map init_unwritten inits ++ flat_map func_unwritten funcs
decl_unwritten (Actor word props inits funcs) =
    flat_map prop_unwritten props ++ flat_map init_unwritten inits ++ flat_map func_unwritten funcs
decl_unwritten (GlobalActor word made) = []
decl_unwritten (Func func) = func_unwritten func
decl_unwritten (Global prop) = prop_unwritten prop

-- Neither of the two forms stands in these trees. Texts needn't be able to write them for that: an
-- `if` without arms has neither.
abbrev pub AreWritten : List Decl → Type 0
AreWritten decls = flat_map decl_unwritten decls ≡ []
