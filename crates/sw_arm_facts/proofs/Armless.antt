-- How many `if`s without arms stand in a tree.
use Rattle.std.specs.Prelude.{ℕ, ◌+◌, List, [], ◌∷◌, Option, Some, None}
use Rattle.std.specs.List.{sum, sum_by}
use Rattle.sw_tree.specs.Folds.{Steps, fold_arg, fold_block, fold_case_arm, fold_closure, fold_expr}
use Rattle.sw_tree.specs.Folds.{fold_if_arm, fold_link, fold_stmt}
use Rattle.sw_tree.specs.declared.decl.Decl.{Decl}
use Rattle.sw_tree.specs.declared.decl.Decl.TheVariants.{Entry, Struct, Enum, Class, Actor}
use Rattle.sw_tree.specs.declared.decl.Decl.TheVariants.{GlobalActor, Func, Global}
use Rattle.sw_tree.specs.declared.decl.FuncTree.{FuncTree}
use Rattle.sw_tree.specs.declared.decl.InitTree.{InitTree}
use Rattle.sw_tree.specs.declared.decl.PropTree.{PropTree}
use Rattle.sw_tree.specs.declared.expr.Expr.{Expr}
use Rattle.sw_tree.specs.declared.expr.Expr.TheOpen as layer
use Rattle.sw_tree_facts.specs.Parts.{Tree, of_arg, of_block, of_case_arm, of_closure, of_decl}
use Rattle.sw_tree_facts.specs.Parts.{of_decls, of_expr, of_func, of_if_arm, of_init, of_link, of_prop}
use Rattle.sw_tree_facts.specs.Parts.{of_stmt}

-- one, if there are no arms
abbrev pub bare : List ℕ → ℕ
bare [] = 1
bare (arm ∷ arms) = 0

abbrev pub some_count : Option ℕ → ℕ
some_count None = 0
some_count (Some count) = count

abbrev pub expr_layer : layer.Expr-F ℕ ℕ ℕ ℕ ℕ ℕ ℕ ℕ → ℕ
expr_layer (layer.Int at value) = 0
expr_layer (layer.Bool at value) = 0
expr_layer (layer.Use name) = 0
expr_layer (layer.Me at) = 0
expr_layer (layer.Member base name) = base
expr_layer (layer.Call name args) = sum args
expr_layer (layer.Method base name args) = base + sum args
expr_layer (layer.Chain first rest) = first + sum rest
expr_layer (layer.Prefix op at inner) = inner
expr_layer (layer.Await at inner) = inner
expr_layer (layer.Fun closure) = closure
expr_layer (layer.Spawn at detached body) = body
expr_layer (layer.Yield at) = 0

abbrev pub stmt_layer : layer.Stmt-F ℕ ℕ ℕ ℕ ℕ ℕ ℕ ℕ → ℕ
stmt_layer (layer.Bind mutable name ty value) = value
stmt_layer (layer.Assign at op place value) = place + value
stmt_layer (layer.Discard at value) = value
stmt_layer (layer.If arms otherwise) = bare arms + sum arms + some_count otherwise
stmt_layer (layer.While at cond body) = cond + body
stmt_layer (layer.Switch at subject arms otherwise) =
    subject + sum arms + some_count otherwise
stmt_layer (layer.Return at value) = some_count value
stmt_layer (layer.Break at) = 0
stmt_layer (layer.Continue at) = 0
stmt_layer (layer.Plain value) = value

abbrev pub armless_steps : Steps
armless_steps = record {
  E = ℕ;
  S = ℕ;
  A = ℕ;
  C = ℕ;
  L = ℕ;
  B = ℕ;
  K = ℕ;
  I = ℕ;
  expr = expr_layer;
  stmt = stmt_layer;
  arg = λ arg. arg.value;
  closure = λ closure. closure.body;
  link = λ link. link.operand;
  block = λ block. sum block.stmts;
  case_arm = λ arm. arm.body;
  if_arm = λ arm. arm.cond + arm.body;
}

abbrev pub value_armless : Option Expr → ℕ
value_armless None = 0
value_armless (Some value) = fold_expr armless_steps value

abbrev pub func_armless : FuncTree → ℕ
func_armless func = fold_block armless_steps func.body

abbrev pub init_armless : InitTree → ℕ
init_armless init = fold_block armless_steps init.body

abbrev pub prop_armless : PropTree → ℕ
prop_armless prop = value_armless prop.value

abbrev pub decl_armless : Decl → ℕ
decl_armless (Entry word written at is_async body) = fold_block armless_steps body
decl_armless (Struct word conforms fields funcs) =
    sum_by prop_armless fields + sum_by func_armless funcs
decl_armless (Enum word conforms cases funcs) = sum_by func_armless funcs
decl_armless (Class written word conforms props inits funcs) =
    sum_by prop_armless props + sum_by init_armless inits + sum_by func_armless funcs
decl_armless (Actor word props inits funcs) =
    sum_by prop_armless props + sum_by init_armless inits + sum_by func_armless funcs
decl_armless (GlobalActor word made) = 0
decl_armless (Func func) = func_armless func
decl_armless (Global prop) = prop_armless prop

abbrev pub armless : Tree → ℕ
armless (of_expr expr) = fold_expr armless_steps expr
armless (of_stmt stmt) = fold_stmt armless_steps stmt
armless (of_arg arg) = fold_arg armless_steps arg
armless (of_closure closure) = fold_closure armless_steps closure
armless (of_link link) = fold_link armless_steps link
armless (of_block block) = fold_block armless_steps block
armless (of_case_arm arm) = fold_case_arm armless_steps arm
armless (of_if_arm arm) = fold_if_arm armless_steps arm
armless (of_prop prop) = prop_armless prop
armless (of_func func) = func_armless func
armless (of_init init) = init_armless init
armless (of_decl decl) = decl_armless decl
armless (of_decls decls) = sum_by decl_armless decls
