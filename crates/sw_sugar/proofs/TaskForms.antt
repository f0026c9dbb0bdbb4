-- What an `await` awaits, by what its expression is made of.
use Rattle.std.proofs.Common.{◌≡◌, ◌∙◌, ℕ, ℤ, Bool, List, ap}
use Rattle.sw_tree.proofs.FoldEquations as eq
use Rattle.sw_tree.specs.Folds.{fold_expr}
use Rattle.sw_tree.specs.declared.expr.Arg.{Arg}
use Rattle.sw_tree.specs.declared.expr.Closure.{Closure}
use Rattle.sw_tree.specs.declared.expr.Expr.{Expr}
use Rattle.sw_tree.specs.declared.expr.Expr.TheVariants as exprs
use Rattle.sw_tree.specs.declared.expr.Link.{Link}
use Rattle.sw_tree.specs.declared.name.Name.{Name}
use Rattle.sw_tree.specs.declared.operator.PrefixOp.{PrefixOp}
use Rattle.sw_sugar.specs.Tasks.{changed, of_task, task_steps, used}

module _ (tasks : List ℕ) (place : ℕ) where
  pub use_is : (name : Name) → of_task tasks place (exprs.Use name)
      ≡ used tasks place name
  unfolding of_task
  use_is name = ap (λ (f : Expr → Expr). f (exprs.Use name)) (eq.fold_expr-Use (task_steps tasks place) name)

  pub member_is : (base : Expr) (name : Name) → of_task tasks place (exprs.Member base name)
      ≡ exprs.Member (of_task tasks place base) name
  unfolding of_task
  member_is base name =
      ap (λ (f : Expr → Expr). f (exprs.Member base name)) (eq.fold_expr-Member (task_steps tasks place) base name)
      ∙ ap (changed (fold_expr (task_steps tasks place) base) (exprs.Member base name))
      (exprs.outs-Member base name)

  pub method_is : (base : Expr) (name : Name) (args : List Arg)
      → of_task tasks place (exprs.Method base name args)
      ≡ exprs.Method (of_task tasks place base) name args
  unfolding of_task
  method_is base name args =
      ap (λ (f : Expr → Expr). f (exprs.Method base name args))
      (eq.fold_expr-Method (task_steps tasks place) base name args)
      ∙ ap (changed (fold_expr (task_steps tasks place) base) (exprs.Method base name args))
      (exprs.outs-Method base name args)

  pub chain_is : (first : Expr) (rest : List Link)
      → of_task tasks place (exprs.Chain first rest)
      ≡ exprs.Chain (of_task tasks place first) rest
  unfolding of_task
  chain_is first rest =
      ap (λ (f : Expr → Expr). f (exprs.Chain first rest)) (eq.fold_expr-Chain (task_steps tasks place) first rest)
      ∙ ap (changed (fold_expr (task_steps tasks place) first) (exprs.Chain first rest))
      (exprs.outs-Chain first rest)

  pub prefix_is : (op : PrefixOp) (at : ℕ) (inner : Expr)
      → of_task tasks place (exprs.Prefix op at inner)
      ≡ exprs.Prefix op at (of_task tasks place inner)
  unfolding of_task
  prefix_is op at inner =
      ap (λ (f : Expr → Expr). f (exprs.Prefix op at inner))
      (eq.fold_expr-Prefix (task_steps tasks place) op at inner)
      ∙ ap (changed (fold_expr (task_steps tasks place) inner) (exprs.Prefix op at inner))
      (exprs.outs-Prefix op at inner)

  pub int_is : (at : ℕ) (value : ℤ)
      → of_task tasks place (exprs.Int at value) ≡ exprs.Int at value
  unfolding of_task
  int_is at value =
      ap (λ (f : Expr → Expr). f (exprs.Int at value)) (eq.fold_expr-Int (task_steps tasks place) at value)

  pub bool_is : (at : ℕ) (value : Bool)
      → of_task tasks place (exprs.Bool at value) ≡ exprs.Bool at value
  unfolding of_task
  bool_is at value =
      ap (λ (f : Expr → Expr). f (exprs.Bool at value)) (eq.fold_expr-Bool (task_steps tasks place) at value)

  pub me_is : (at : ℕ) → of_task tasks place (exprs.Me at) ≡ exprs.Me at
  unfolding of_task
  me_is at = ap (λ (f : Expr → Expr). f (exprs.Me at)) (eq.fold_expr-Me (task_steps tasks place) at)

  pub call_is : (name : Name) (args : List Arg)
      → of_task tasks place (exprs.Call name args) ≡ exprs.Call name args
  unfolding of_task
  call_is name args =
      ap (λ (f : Expr → Expr). f (exprs.Call name args)) (eq.fold_expr-Call (task_steps tasks place) name args)

  pub await_is : (at : ℕ) (inner : Expr)
      → of_task tasks place (exprs.Await at inner) ≡ exprs.Await at inner
  unfolding of_task
  await_is at inner =
      ap (λ (f : Expr → Expr). f (exprs.Await at inner)) (eq.fold_expr-Await (task_steps tasks place) at inner)

  pub fun_is : (closure : Closure)
      → of_task tasks place (exprs.Fun closure) ≡ exprs.Fun closure
  unfolding of_task
  fun_is closure =
      ap (λ (f : Expr → Expr). f (exprs.Fun closure)) (eq.fold_expr-Fun (task_steps tasks place) closure)

  pub spawn_is : (at : ℕ) (detached : Bool) (body : Closure)
      → of_task tasks place (exprs.Spawn at detached body) ≡ exprs.Spawn at detached body
  unfolding of_task
  spawn_is at detached body =
      ap (λ (f : Expr → Expr). f (exprs.Spawn at detached body))
      (eq.fold_expr-Spawn (task_steps tasks place) at detached body)

  pub yield_is : (at : ℕ) → of_task tasks place (exprs.Yield at) ≡ exprs.Yield at
  unfolding of_task
  yield_is at = ap (λ (f : Expr → Expr). f (exprs.Yield at)) (eq.fold_expr-Yield (task_steps tasks place) at)

pub ruleset forms = (
  use_is,
  member_is,
  method_is,
  chain_is,
  prefix_is,
  int_is,
  bool_is,
  me_is,
  call_is,
  await_is,
  fun_is,
  spawn_is,
  yield_is,
)
