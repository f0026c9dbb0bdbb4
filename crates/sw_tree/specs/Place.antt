-- Which expressions can be assigned to.
use Rattle.std.specs.Prelude.{Bool, true, false}
use Rattle.sw_tree.specs.Folds.{Steps, fold_expr}
use Rattle.sw_tree.specs.NodeKey.{Nothing}
use Rattle.sw_tree.specs.declared.expr.Expr.{Expr}
use Rattle.sw_tree.specs.declared.expr.Expr.TheOpen as layer

-- a word, `self`, or a member of a place
abbrev pub expr_layer : layer.Expr-F Bool Nothing Nothing Nothing Nothing Nothing Nothing Nothing
    → Bool
expr_layer (layer.Use name) = true
expr_layer (layer.Me at) = true
expr_layer (layer.Member base name) = base
expr_layer (layer.Int at value) = false
expr_layer (layer.Bool at value) = false
expr_layer (layer.Call name args) = false
expr_layer (layer.Method base name args) = false
expr_layer (layer.Chain first rest) = false
expr_layer (layer.Prefix op at inner) = false
expr_layer (layer.Await at inner) = false
expr_layer (layer.Fun closure) = false
expr_layer (layer.Spawn at detached body) = false
expr_layer (layer.Yield at) = false

abbrev pub place_steps : Steps
place_steps = record {
  E = Bool;
  S = Nothing;
  A = Nothing;
  C = Nothing;
  L = Nothing;
  B = Nothing;
  K = Nothing;
  I = Nothing;
  expr = expr_layer;
  stmt = λ _. tt;
  arg = λ _. tt;
  closure = λ _. tt;
  link = λ _. tt;
  block = λ _. tt;
  case_arm = λ _. tt;
  if_arm = λ _. tt;
}

-- whether an expression is made of words, `self` and members alone
unfoldable pub is_place : Expr → Bool
is_place = fold_expr place_steps
