-- What an `await` awaits. After `async let x = e` the word `x` stands for a task, and an `await`
-- whose first primary is that word awaits the task's value. In place of the primary the tree has a
-- member: `value`, where the word stood, of a use of the word behind the first byte of the `await`.
--
-- The first primary of a chain is that of its first operand, of a prefix operator that of its
-- operand, of a member or method that of its base, and of any other expression itself.
use Rattle.std.specs.Prelude.{ℕ, ◌==◌, if◌then◌else◌, List}
use Rattle.std.specs.List.{list_any}
use Rattle.sw_tree.specs.Folds.{Steps, fold_expr}
use Rattle.sw_tree.specs.Names.{value_id}
use Rattle.sw_tree.specs.NodeKey.{Nothing}
use Rattle.sw_tree.specs.declared.expr.Arg.{Arg}
use Rattle.sw_tree.specs.declared.expr.Closure.{Closure}
use Rattle.sw_tree.specs.declared.expr.Expr.{Expr, out-Expr}
use Rattle.sw_tree.specs.declared.expr.Expr.TheOpen as layer
use Rattle.sw_tree.specs.declared.expr.Expr.TheVariants as exprs
use Rattle.sw_tree.specs.declared.expr.Link.{Link}
use Rattle.sw_tree.specs.declared.name.Name.{Name}
use Rattle.sw_tree.specs.declared.stmt.Block.{Block}
use Rattle.sw_tree.specs.declared.stmt.CaseArm.{CaseArm}
use Rattle.sw_tree.specs.declared.stmt.IfArm.{IfArm}
use Rattle.sw_tree.specs.declared.stmt.Stmt.{Stmt}
use Rattle.sw_sugar.specs.Optionals.{name_at, use_at}

-- the value of the task that a word stands for, with the place of the use of the word
abbrev pub task_value : ℕ → Name → Expr
task_value place name = exprs.Member (use_at place name.id) (name_at name.at value_id)

-- a tree of this layer in which the part that has its first primary is changed
abbrev pub changed : (Expr → Expr) → Expr
    → layer.Expr-F Expr Stmt Arg Closure Link Block CaseArm IfArm → Expr
changed change tree (layer.Member base name) = exprs.Member (change base) name
changed change tree (layer.Method base name args) = exprs.Method (change base) name args
changed change tree (layer.Chain first rest) = exprs.Chain (change first) rest
changed change tree (layer.Prefix op at inner) = exprs.Prefix op at (change inner)
changed change tree (layer.Int at value) = tree
changed change tree (layer.Bool at value) = tree
changed change tree (layer.Use name) = tree
changed change tree (layer.Me at) = tree
changed change tree (layer.Call name args) = tree
changed change tree (layer.Await at inner) = tree
changed change tree (layer.Fun closure) = tree
changed change tree (layer.Spawn at detached body) = tree
changed change tree (layer.Yield at) = tree

-- a tree with the part changed that has its first primary, where that is a part of it
abbrev pub with_first : (Expr → Expr) → Expr → Expr
with_first change tree = changed change tree (out-Expr tree)

-- The ids are those of the words that stand for tasks, and the place is that behind the first byte
-- of an `await`.
module _ (tasks : List ℕ) (place : ℕ) where
  -- a use of a name
  abbrev pub used : Name → Expr
  used name =
      if list_any (λ task. task == name.id) tasks then task_value place name else exprs.Use name

  abbrev pub task_layer :
      layer.Expr-F (Expr → Expr) Nothing Nothing Nothing Nothing Nothing Nothing Nothing
      → Expr → Expr
  task_layer (layer.Use name) tree = used name
  task_layer (layer.Member base name) tree = with_first base tree
  task_layer (layer.Method base name args) tree = with_first base tree
  task_layer (layer.Chain first rest) tree = with_first first tree
  task_layer (layer.Prefix op at inner) tree = with_first inner tree
  task_layer (layer.Int at value) tree = tree
  task_layer (layer.Bool at value) tree = tree
  task_layer (layer.Me at) tree = tree
  task_layer (layer.Call name args) tree = tree
  task_layer (layer.Await at inner) tree = tree
  task_layer (layer.Fun closure) tree = tree
  task_layer (layer.Spawn at detached body) tree = tree
  task_layer (layer.Yield at) tree = tree

  abbrev pub task_steps : Steps
  task_steps = record {
    E = Expr → Expr;
    S = Nothing;
    A = Nothing;
    C = Nothing;
    L = Nothing;
    B = Nothing;
    K = Nothing;
    I = Nothing;
    expr = task_layer;
    stmt = λ _. tt;
    arg = λ _. tt;
    closure = λ _. tt;
    link = λ _. tt;
    block = λ _. tt;
    case_arm = λ _. tt;
    if_arm = λ _. tt;
  }

  -- what an `await` of this expression awaits
  unfoldable pub of_task : Expr → Expr
  of_task tree = fold_expr task_steps tree tree
