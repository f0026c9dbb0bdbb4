-- The key of one node, and which expressions can be assigned to.
use Rattle.std.specs.Prelude.{ℕ, List, [], ◌∷◌}
use Rattle.sw_tree.specs.Folds.{Steps, fold_expr, fold_stmt}
use Rattle.sw_tree.specs.declared.expr.Expr.{Expr}
use Rattle.sw_tree.specs.declared.expr.Expr.TheOpen as layer
use Rattle.sw_tree.specs.declared.stmt.Stmt.{Stmt}

-- the last of the keys, or else this one
abbrev pub last_or : ℕ → List ℕ → ℕ
last_or key [] = key
last_or key (next ∷ more) = last_or next more

-- the first of the keys, or else this one
abbrev pub first_or : ℕ → List ℕ → ℕ
first_or key [] = key
first_or key (next ∷ more) = next

-- what a fold gives for a tree of which it says nothing
abbrev pub Nothing : Type 0
Nothing = Unit {0}

-- a chain has the key of its last operator
abbrev pub expr_layer : layer.Expr-F ℕ ℕ Nothing ℕ ℕ Nothing Nothing ℕ → ℕ
expr_layer (layer.Int at value) = at
expr_layer (layer.Bool at value) = at
expr_layer (layer.Use name) = name.at
expr_layer (layer.Me at) = at
expr_layer (layer.Member base name) = name.at
expr_layer (layer.Call name args) = name.at
expr_layer (layer.Method base name args) = name.at
expr_layer (layer.Chain first rest) = last_or first rest
expr_layer (layer.Prefix op at inner) = at
expr_layer (layer.Await at inner) = at
expr_layer (layer.Fun closure) = closure
expr_layer (layer.Spawn at detached body) = at
expr_layer (layer.Yield at) = at

-- an `if` has the key of its first arm; it always has one
abbrev pub stmt_layer : layer.Stmt-F ℕ ℕ Nothing ℕ ℕ Nothing Nothing ℕ → ℕ
stmt_layer (layer.Bind mutable name ty value) = name.at
stmt_layer (layer.Assign at op place value) = at
stmt_layer (layer.Discard at value) = at
stmt_layer (layer.If arms otherwise) = first_or 0 arms
stmt_layer (layer.While at cond body) = at
stmt_layer (layer.Switch at subject arms otherwise) = at
stmt_layer (layer.Return at value) = at
stmt_layer (layer.Break at) = at
stmt_layer (layer.Continue at) = at
stmt_layer (layer.Plain value) = value

abbrev pub node_steps : Steps
node_steps = record {
  E = ℕ;
  S = ℕ;
  A = Nothing;
  C = ℕ;
  L = ℕ;
  B = Nothing;
  K = Nothing;
  I = ℕ;
  expr = expr_layer;
  stmt = stmt_layer;
  arg = λ _. tt;
  closure = λ closure. closure.at;
  link = λ link. link.at;
  block = λ _. tt;
  case_arm = λ _. tt;
  if_arm = λ arm. arm.at;
}

-- the key of an expression's own node
unfoldable pub expr_key : Expr → ℕ
expr_key = fold_expr node_steps

-- the key of a statement's own node; an expression as a statement has the expression's
unfoldable pub stmt_key : Stmt → ℕ
stmt_key = fold_stmt node_steps
