-- Statements after `async let x = e`: in them each `await` of the word `x` awaits the task's value,
-- and all else is as it was.
use Rattle.std.specs.Prelude.{ℕ, suc, nat_lt, if◌then◌else◌, [], ◌∷◌}
use Rattle.sw_tree.specs.Folds.{Steps, fold_expr, fold_stmt, fold_arg, fold_closure, fold_link}
use Rattle.sw_tree.specs.Folds.{fold_block, fold_case_arm, fold_if_arm}
use Rattle.sw_tree.specs.declared.expr.Arg.{Arg, roll-Arg}
use Rattle.sw_tree.specs.declared.expr.Closure.{Closure, roll-Closure}
use Rattle.sw_tree.specs.declared.expr.Expr.{Expr}
use Rattle.sw_tree.specs.declared.expr.Expr.TheOpen as layer
use Rattle.sw_tree.specs.declared.expr.Expr.TheVariants as exprs
use Rattle.sw_tree.specs.declared.expr.Link.{Link, roll-Link}
use Rattle.sw_tree.specs.declared.stmt.Block.{Block, roll-Block}
use Rattle.sw_tree.specs.declared.stmt.CaseArm.{CaseArm, roll-CaseArm}
use Rattle.sw_tree.specs.declared.stmt.IfArm.{IfArm, roll-IfArm}
use Rattle.sw_tree.specs.declared.stmt.Stmt.{Stmt, roll-Stmt}
use Rattle.sw_sugar.specs.Tasks.{of_task}

-- An `await` after `async let` of a word. Places have 32 bits, so behind the last of them there is
-- none; no `await` of a text stands there.
abbrev pub awaiting : ℕ → ℕ → Expr → Expr
awaiting word at inner =
    exprs.Await at (if nat_lt at 4294967295 then of_task (word ∷ []) (suc at) inner else inner)

module _ (word : ℕ) where
  abbrev pub expr_layer : layer.Expr-F Expr Stmt Arg Closure Link Block CaseArm IfArm → Expr
  expr_layer (layer.Await at inner) = awaiting word at inner
  expr_layer (layer.Int at value) = exprs.Int at value
  expr_layer (layer.Bool at value) = exprs.Bool at value
  expr_layer (layer.Use name) = exprs.Use name
  expr_layer (layer.Me at) = exprs.Me at
  expr_layer (layer.Member base name) = exprs.Member base name
  expr_layer (layer.Call name args) = exprs.Call name args
  expr_layer (layer.Method base name args) = exprs.Method base name args
  expr_layer (layer.Chain first rest) = exprs.Chain first rest
  expr_layer (layer.Prefix op at inner) = exprs.Prefix op at inner
  expr_layer (layer.Fun closure) = exprs.Fun closure
  expr_layer (layer.Spawn at detached body) = exprs.Spawn at detached body
  expr_layer (layer.Yield at) = exprs.Yield at

  abbrev pub rewriting : Steps
  rewriting = record {
    E = Expr;
    S = Stmt;
    A = Arg;
    C = Closure;
    L = Link;
    B = Block;
    K = CaseArm;
    I = IfArm;
    expr = expr_layer;
    stmt = roll-Stmt;
    arg = roll-Arg;
    closure = roll-Closure;
    link = roll-Link;
    block = roll-Block;
    case_arm = roll-CaseArm;
    if_arm = roll-IfArm;
  }

  -- a part of a tree after `async let` of the word with this id
  unfoldable pub rewritten_expr : Expr → Expr
  rewritten_expr = fold_expr rewriting

  unfoldable pub rewritten : Stmt → Stmt
  rewritten = fold_stmt rewriting

  unfoldable pub rewritten_arg : Arg → Arg
  rewritten_arg = fold_arg rewriting

  unfoldable pub rewritten_closure : Closure → Closure
  rewritten_closure = fold_closure rewriting

  unfoldable pub rewritten_link : Link → Link
  rewritten_link = fold_link rewriting

  unfoldable pub rewritten_block : Block → Block
  rewritten_block = fold_block rewriting

  unfoldable pub rewritten_case_arm : CaseArm → CaseArm
  rewritten_case_arm = fold_case_arm rewriting

  unfoldable pub rewritten_if_arm : IfArm → IfArm
  rewritten_if_arm = fold_if_arm rewriting
