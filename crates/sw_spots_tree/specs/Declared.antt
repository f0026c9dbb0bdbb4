-- The keys of the variables that a tree declares, at any depth: of `let` and `var`, of patterns, and
-- of the parameters of closures.
use Rattle.std.specs.Prelude.{[], ◌∷◌, ◌++◌, map, flat_map, unwrap_or}
use Rattle.sw_tree.specs.Folds.{Steps, fold_block, fold_expr}
use Rattle.sw_tree.specs.Keys.{Keys, joined, pattern_keys}
use Rattle.sw_tree.specs.declared.expr.Expr.{Expr}
use Rattle.sw_tree.specs.declared.expr.Expr.TheOpen as layer
use Rattle.sw_tree.specs.declared.stmt.Block.{Block}

abbrev pub expr_layer : layer.Expr-F Keys Keys Keys Keys Keys Keys Keys Keys → Keys
expr_layer (layer.Int at value) = []
expr_layer (layer.Bool at value) = []
expr_layer (layer.Use name) = []
expr_layer (layer.Me at) = []
expr_layer (layer.Member base name) = base
expr_layer (layer.Call name args) = joined args
expr_layer (layer.Method base name args) = base ++ joined args
expr_layer (layer.Chain first rest) = first ++ joined rest
expr_layer (layer.Prefix op at inner) = inner
expr_layer (layer.Await at inner) = inner
expr_layer (layer.Fun closure) = closure
expr_layer (layer.Spawn at detached body) = body
expr_layer (layer.Yield at) = []

abbrev pub stmt_layer : layer.Stmt-F Keys Keys Keys Keys Keys Keys Keys Keys → Keys
stmt_layer (layer.Bind mutable name ty value) = name.at ∷ value
stmt_layer (layer.Assign at op place value) = place ++ value
stmt_layer (layer.Discard at value) = value
stmt_layer (layer.If arms otherwise) = joined arms ++ unwrap_or otherwise []
stmt_layer (layer.While at cond body) = cond ++ body
stmt_layer (layer.Switch at subject arms otherwise) =
    subject ++ joined arms ++ unwrap_or otherwise []
stmt_layer (layer.Return at value) = unwrap_or value []
stmt_layer (layer.Break at) = []
stmt_layer (layer.Continue at) = []
stmt_layer (layer.Plain value) = value

abbrev pub declared_steps : Steps
declared_steps = record {
  E = Keys;
  S = Keys;
  A = Keys;
  C = Keys;
  L = Keys;
  B = Keys;
  K = Keys;
  I = Keys;
  expr = expr_layer;
  stmt = stmt_layer;
  arg = λ arg. arg.value;
  closure = λ closure. map (λ param. param.name.at) closure.params ++ closure.body;
  link = λ link. link.operand;
  block = λ block. joined block.stmts;
  case_arm = λ arm. flat_map pattern_keys arm.patterns ++ arm.body;
  if_arm = λ arm. arm.cond ++ arm.body;
}

unfoldable pub expr_declared : Expr → Keys
expr_declared = fold_expr declared_steps

unfoldable pub block_declared : Block → Keys
block_declared = fold_block declared_steps
