-- How large trees are: how many operators, closures, tasks, arms, loops, `switch`es, patterns and
-- statements that leave they have, and how many declarations and members. Nothing else counts.
use Rattle.std.specs.Prelude.{ℕ, ◌+◌, List, length, Option, Some, None}
use Rattle.std.specs.List.{sum, sum_by}
use Rattle.sw_tree.specs.Folds.{Steps, fold_block, fold_expr}
use Rattle.sw_tree.specs.declared.decl.Decl.{Decl}
use Rattle.sw_tree.specs.declared.decl.Decl.TheVariants.{Entry, Struct, Enum, Class, Actor}
use Rattle.sw_tree.specs.declared.decl.Decl.TheVariants.{GlobalActor, Func, Global}
use Rattle.sw_tree.specs.declared.decl.FuncTree.{FuncTree}
use Rattle.sw_tree.specs.declared.decl.InitTree.{InitTree}
use Rattle.sw_tree.specs.declared.decl.PropTree.{PropTree}
use Rattle.sw_tree.specs.declared.expr.Expr.{Expr}
use Rattle.sw_tree.specs.declared.expr.Expr.TheOpen as layer
use Rattle.sw_tree.specs.declared.stmt.Block.{Block}

-- the size of an expression where it is read, and of an assignment to it
pub record ExprSize : Type 0 where
  pub read : ℕ
  pub write : ℕ

-- an expression with nothing to count before a `.` where it is assigned to
abbrev pub read_alone : ℕ → ExprSize
read_alone size = record { read = size; write = 0 }

-- An assignment to a member reads what stands before the `.`, and may assign to that.
abbrev pub expr_layer : layer.Expr-F ExprSize ℕ ℕ ℕ ℕ ℕ ℕ ℕ → ExprSize
expr_layer (layer.Int at value) = read_alone 0
expr_layer (layer.Bool at value) = read_alone 0
expr_layer (layer.Use name) = read_alone 0
expr_layer (layer.Me at) = read_alone 0
expr_layer (layer.Member base name) =
    record { read = base.read; write = base.read + base.write }
expr_layer (layer.Call name args) = read_alone (sum args)
expr_layer (layer.Method base name args) = read_alone (base.read + sum args)
expr_layer (layer.Chain first rest) = read_alone (first.read + sum rest)
expr_layer (layer.Prefix op at inner) = read_alone inner.read
expr_layer (layer.Await at inner) = read_alone inner.read
expr_layer (layer.Fun closure) = read_alone closure
expr_layer (layer.Spawn at detached body) = read_alone body
expr_layer (layer.Yield at) = read_alone 0

-- what is there, or nothing
abbrev pub some_read : Option ExprSize → ℕ
some_read None = 0
some_read (Some value) = value.read

abbrev pub some_size : Option ℕ → ℕ
some_size None = 0
some_size (Some size) = size

abbrev pub stmt_layer : layer.Stmt-F ExprSize ℕ ℕ ℕ ℕ ℕ ℕ ℕ → ℕ
stmt_layer (layer.Bind mutable name ty value) = value.read
stmt_layer (layer.Assign at op place value) = place.read + place.write + value.read
stmt_layer (layer.Discard at value) = value.read
stmt_layer (layer.If arms otherwise) = sum arms + some_size otherwise
stmt_layer (layer.While at cond body) = 1 + cond.read + body
stmt_layer (layer.Switch at subject arms otherwise) =
    1 + subject.read + sum arms + some_size otherwise
stmt_layer (layer.Return at value) = 1 + some_read value
stmt_layer (layer.Break at) = 1
stmt_layer (layer.Continue at) = 1
stmt_layer (layer.Plain value) = value.read

abbrev pub size_steps : Steps
size_steps = record {
  E = ExprSize;
  S = ℕ;
  A = ℕ;
  C = ℕ;
  L = ℕ;
  B = ℕ;
  K = ℕ;
  I = ℕ;
  expr = expr_layer;
  stmt = stmt_layer;
  arg = λ arg. arg.value.read;
  closure = λ closure. 1 + closure.body;
  link = λ link. 1 + link.operand.read;
  block = λ block. sum block.stmts;
  case_arm = λ arm. 1 + length arm.patterns + arm.body;
  if_arm = λ arm. 1 + arm.cond.read + arm.body;
}

unfoldable pub expr_size : Expr → ExprSize
expr_size = fold_expr size_steps

unfoldable pub block_size : Block → ℕ
block_size = fold_block size_steps

-- the size of a value that may be missing
abbrev pub value_size : Option Expr → ℕ
value_size None = 0
value_size (Some value) = (expr_size value).read

abbrev pub func_size : FuncTree → ℕ
func_size func = 1 + block_size func.body

abbrev pub init_size : InitTree → ℕ
init_size init = 1 + block_size init.body

abbrev pub prop_size : PropTree → ℕ
prop_size prop = 1 + value_size prop.value

abbrev pub decl_size : Decl → ℕ
decl_size (Entry word written at is_async body) = 1 + block_size body
decl_size (Struct word conforms fields funcs) =
    1 + sum_by prop_size fields + sum_by func_size funcs
decl_size (Enum word conforms cases funcs) = 1 + length cases + sum_by func_size funcs
decl_size (Class written word conforms props inits funcs) =
    1 + sum_by prop_size props + sum_by init_size inits + sum_by func_size funcs
decl_size (Actor word props inits funcs) =
    1 + sum_by prop_size props + sum_by init_size inits + sum_by func_size funcs
decl_size (GlobalActor word made) = 1
decl_size (Func func) = func_size func
decl_size (Global prop) = prop_size prop

-- the size of a program
unfoldable pub size_of : List Decl → ℕ
size_of decls = sum_by decl_size decls
