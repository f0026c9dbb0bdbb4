-- The statements of `async let`.
use Rattle.std.specs.Prelude.{ℕ, suc, true, false, None, List, [], ◌∷◌, map}
use Rattle.sw_tree.specs.declared.expr.Closure.{Closure, roll-Closure}
use Rattle.sw_tree.specs.declared.expr.Expr.{Expr}
use Rattle.sw_tree.specs.declared.expr.Expr.TheVariants as exprs
use Rattle.sw_tree.specs.declared.name.Name.{Name}
use Rattle.sw_tree.specs.declared.stmt.Block.{roll-Block}
use Rattle.sw_tree.specs.declared.stmt.Stmt.{Stmt}
use Rattle.sw_tree.specs.declared.stmt.Stmt.TheVariants as stmts
use Rattle.sw_sugar.specs.Rewritten.{rewritten}

-- the body of the task, with the places of the `=` and of the `await` of its value
abbrev pub task_body : ℕ → ℕ → Expr → Closure
task_body eq_at await_at value = roll-Closure (record {
  at = eq_at;
  mark = None;
  captures = [];
  params = [];
  result = None;
  body = roll-Block (record { stmts = stmts.Plain (exprs.Await await_at value) ∷ [] });
})

-- the variable that stands for the task, with the places of `async` and `=`
abbrev pub task_bind : ℕ → Name → ℕ → Expr → Stmt
task_bind at name eq_at value =
    stmts.Bind false name None (exprs.Spawn at true (task_body eq_at (suc at) value))

-- `async let name = value` with the statements after it, with the places of `async` and `=`
abbrev pub async_let_stmts : ℕ → Name → ℕ → Expr → List Stmt → List Stmt
async_let_stmts at name eq_at value rest =
    task_bind at name eq_at value ∷ map (rewritten name.id) rest
