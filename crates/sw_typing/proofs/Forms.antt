-- What is known of some forms of expressions by what is known of their parts.
use Rattle.std.proofs.Common.{◌≡◌, ℕ, Bool, false, List, ap}
use Rattle.sw_tree.proofs.FoldEquations as eq
use Rattle.sw_tree.specs.declared.expr.Arg.{Arg}
use Rattle.sw_tree.specs.declared.expr.Closure.{Closure}
use Rattle.sw_tree.specs.declared.expr.Expr.{Expr}
use Rattle.sw_tree.specs.declared.expr.Expr.TheVariants as exprs
use Rattle.sw_tree.specs.declared.name.Name.{Name}
use Rattle.sw_typing_rules.specs.Calls.{slots_of}
use Rattle.sw_typing_rules.specs.Expressions.{base_rows, call_judged, fun_judged}
use Rattle.sw_typing_rules.specs.Expressions.{spawn_judged}
use Rattle.sw_typing_rules.specs.Judging.{OfExpr, typing_steps}
use Rattle.sw_typing_rules.specs.Words.{Setting}
use Rattle.sw_typing_rules.specs.Worlds.{World}
use Rattle.sw_typing.specs.Walked.{args_passed, called_member, closure_known, expr_known}

module _ (world : World) where
  pub fun_is : (closure : Closure) (s : Setting) (expected : Bool)
      → expr_known world (exprs.Fun closure) s expected
      ≡ fun_judged expected (closure_known world closure s)
  unfolding closure_known
  fun_is closure s expected =
      ap (λ (f : OfExpr). f s expected) (eq.fold_expr-Fun (typing_steps world) closure)

  pub spawn_is : (at : ℕ) (detached : Bool) (body : Closure) (s : Setting) (expected : Bool)
      → expr_known world (exprs.Spawn at detached body) s expected
      ≡ spawn_judged at (closure_known world body s)
  unfolding closure_known
  spawn_is at detached body s expected =
      ap (λ (f : OfExpr). f s expected) (eq.fold_expr-Spawn (typing_steps world) at detached body)

  pub method_is : (base : Expr) (name : Name) (args : List Arg) (s : Setting) (expected : Bool)
      → expr_known world (exprs.Method base name args) s expected
      ≡ call_judged (called_member world base s name) name.at
      (base_rows (expr_known world base s false))
      (args_passed world args s (slots_of (called_member world base s name)))
  unfolding called_member
  method_is base name args s expected =
      ap (λ (f : OfExpr). f s expected) (eq.fold_expr-Method (typing_steps world) base name args)
